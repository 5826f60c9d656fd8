use Rattle.strc_sched_orders.proofs.GoingOn.{orders_go_on}
use Rattle.strc_sched_orders.proofs.laws.orders_go_on.Goals as goal

pub returns : goal.returns
returns c = orders_go_on
