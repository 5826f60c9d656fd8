use Rattle.strc_emit_runs.proofs.Firings.{passing_go}
use Rattle.strc_emit_runs.proofs.passing_go.Goals as goal

pub returns : goal.returns
returns c = passing_go
