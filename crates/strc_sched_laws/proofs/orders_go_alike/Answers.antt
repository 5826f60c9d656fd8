use Rattle.strc_sched_laws.proofs.OrdersAlike.{orders_go_alike}
use Rattle.strc_sched_laws.proofs.orders_go_alike.Goals as goal

pub returns : goal.returns
returns c = orders_go_alike
