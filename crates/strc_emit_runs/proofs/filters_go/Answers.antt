use Rattle.strc_emit_runs.proofs.Firings.{filters_go}
use Rattle.strc_emit_runs.proofs.filters_go.Goals as goal

pub returns : goal.returns
returns c = filters_go
