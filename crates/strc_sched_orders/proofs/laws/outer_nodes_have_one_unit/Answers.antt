use Rattle.strc_sched_orders.proofs.OuterNodes.{outer_nodes_have_one_unit}
use Rattle.strc_sched_orders.proofs.laws.outer_nodes_have_one_unit.Goals as goal

pub returns : goal.returns
returns c = outer_nodes_have_one_unit
