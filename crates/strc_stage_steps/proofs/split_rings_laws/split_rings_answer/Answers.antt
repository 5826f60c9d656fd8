use Rattle.strc_stage_steps.proofs.Rings.{rings_answer}
use Rattle.strc_stage_steps.proofs.split_rings_laws.split_rings_answer.Goals as goal

pub returns : goal.returns
returns c = rings_answer
