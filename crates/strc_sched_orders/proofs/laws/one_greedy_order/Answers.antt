use Rattle.strc_sched_orders.proofs.Deciding.{one_order}
use Rattle.strc_sched_orders.proofs.laws.one_greedy_order.Goals as goal

pub returns : goal.returns
returns c = one_order
