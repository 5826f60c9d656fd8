use Rattle.strc_stage_plan.proofs.Beginnings.{groups_begin_between}
use Rattle.strc_stage_plan.proofs.cut_laws.groups_begin_between.Goals as goal

pub returns : goal.returns
returns c = groups_begin_between
