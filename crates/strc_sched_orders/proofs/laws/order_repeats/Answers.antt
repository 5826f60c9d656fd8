use Rattle.strc_sched_orders.proofs.Repeating.{order_repeats}
use Rattle.strc_sched_orders.proofs.laws.order_repeats.Goals as goal

pub returns : goal.returns
returns c = order_repeats
