use Rattle.strc_emit_plans.proofs.Declared.{declared_row}
use Rattle.strc_emit_plans.proofs.declared_row.Goals as goal

pub returns : goal.returns
returns c = declared_row
