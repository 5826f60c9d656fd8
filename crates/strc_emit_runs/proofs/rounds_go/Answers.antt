use Rattle.strc_emit_runs.proofs.Rounds.{rounds_go}
use Rattle.strc_emit_runs.proofs.rounds_go.Goals as goal

pub returns : goal.returns
returns c = rounds_go
