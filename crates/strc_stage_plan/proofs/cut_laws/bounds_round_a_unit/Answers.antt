use Rattle.strc_stage_plan.proofs.Row.{bounds_round_a_unit}
use Rattle.strc_stage_plan.proofs.cut_laws.bounds_round_a_unit.Goals as goal

pub returns : goal.returns
returns c = bounds_round_a_unit
