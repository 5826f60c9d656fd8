use Rattle.strc_sched_orders.proofs.Ranges.{low_nodes_fire_first}
use Rattle.strc_sched_orders.proofs.laws.low_nodes_fire_first.Goals as goal

pub returns : goal.returns
returns c = low_nodes_fire_first
