use Rattle.strc_emit_resolved.proofs.Sides.{resolved_keep_sides}
use Rattle.strc_emit_resolved.proofs.resolved_keep_sides.Goals as goal

pub returns : goal.returns
returns c = resolved_keep_sides
