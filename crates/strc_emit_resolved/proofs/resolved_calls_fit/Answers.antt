use Rattle.strc_emit_resolved.proofs.Members.{resolved_calls_fit}
use Rattle.strc_emit_resolved.proofs.resolved_calls_fit.Goals as goal

pub returns : goal.returns
returns c = resolved_calls_fit
