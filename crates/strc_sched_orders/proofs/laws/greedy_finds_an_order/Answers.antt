use Rattle.strc_sched_orders.proofs.Deciding.{finds_an_order}
use Rattle.strc_sched_orders.proofs.laws.greedy_finds_an_order.Goals as goal

pub returns : goal.returns
returns c = finds_an_order
