use Rattle.strc_sched_orders.proofs.Deciding.{is_an_order}
use Rattle.strc_sched_orders.proofs.laws.greedy_is_an_order.Goals as goal

pub returns : goal.returns
returns c = is_an_order
