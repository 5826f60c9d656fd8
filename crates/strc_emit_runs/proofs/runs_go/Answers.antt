use Rattle.strc_emit_runs.proofs.Orders.{runs_go}
use Rattle.strc_emit_runs.proofs.runs_go.Goals as goal

pub returns : goal.returns
returns c = runs_go
