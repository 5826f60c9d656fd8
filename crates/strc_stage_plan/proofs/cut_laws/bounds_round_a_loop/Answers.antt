use Rattle.strc_stage_plan.proofs.Row.{bounds_round_a_loop}
use Rattle.strc_stage_plan.proofs.cut_laws.bounds_round_a_loop.Goals as goal

pub returns : goal.returns
returns c = bounds_round_a_loop
