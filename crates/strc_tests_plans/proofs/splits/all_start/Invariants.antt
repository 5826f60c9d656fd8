use Rattle.std.proofs.Common.{take, map, All}
use Rattle.strc_elab_graph.specs.NodeView.{node_view}
use Rattle.strc_sched_machine.specs.Actors.{CanStartNode}
use Rattle.strc_tests_plans.proofs.splits.all_start.Given as goal

abbrev pub invariant-loop-node : goal.invariant-loop-node
invariant-loop-node l = All CanStartNode (map node_view (take l.node-index l.nodes))
