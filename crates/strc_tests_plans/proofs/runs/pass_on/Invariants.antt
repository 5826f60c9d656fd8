use Rattle.std.proofs.Common.{take, map, All}
use Rattle.strc_elab_graph.specs.NodeView.{node_view}
use Rattle.strc_tests_plans.specs.Movers.{PassesOn}
use Rattle.strc_tests_plans.proofs.runs.pass_on.Given as goal

abbrev pub invariant-loop-node : goal.invariant-loop-node
invariant-loop-node l = All PassesOn (map node_view (take l.node-index l.nodes))
