use Rattle.strc_emit_plans.proofs.Declared.{declared_is_first}
use Rattle.strc_emit_plans.proofs.declared_is_first.Goals as goal

pub returns : goal.returns
returns c = declared_is_first
