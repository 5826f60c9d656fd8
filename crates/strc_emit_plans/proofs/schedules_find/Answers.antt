use Rattle.strc_emit_plans.proofs.Finds.{schedules_find}
use Rattle.strc_emit_plans.proofs.schedules_find.Goals as goal

pub returns : goal.returns
returns c = schedules_find
