use Rattle.strc_stage_steps.proofs.Carrying.{rings_are_in_rounds}
use Rattle.strc_stage_steps.proofs.ring_laws.rings_are_in_rounds.Goals as goal

pub returns : goal.returns
returns c = rings_are_in_rounds
