use Rattle.strc_emit_runs.proofs.Orders.{orders_go}
use Rattle.strc_emit_runs.proofs.orders_go.Goals as goal

pub returns : goal.returns
returns c = orders_go
