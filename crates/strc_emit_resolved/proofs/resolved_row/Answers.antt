use Rattle.strc_emit_resolved.proofs.Sides.{resolved_row}
use Rattle.strc_emit_resolved.proofs.resolved_row.Goals as goal

pub returns : goal.returns
returns c = resolved_row
