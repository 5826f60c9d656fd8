use Rattle.strc_stage_plan.proofs.Row.{cut_round_a_loop}
use Rattle.strc_stage_plan.proofs.cut_laws.cut_round_a_loop.Goals as goal

pub returns : goal.returns
returns c = cut_round_a_loop
