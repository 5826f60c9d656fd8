use Rattle.strc_stage_plan.proofs.GroupBounds.{bounds_are_of_groups}
use Rattle.strc_stage_plan.proofs.cut_laws.bounds_are_of_groups.Goals as goal

pub returns : goal.returns
returns c = bounds_are_of_groups
