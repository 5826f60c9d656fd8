use Rattle.strc_emit_runs.proofs.Firings.{preworks_go}
use Rattle.strc_emit_runs.proofs.preworks_go.Goals as goal

pub returns : goal.returns
returns c = preworks_go
