use Rattle.std.proofs.Common.{◌≡◌, map, take}
use Rattle.strc_elab_graph.specs.NodeView.{node_view}
use Rattle.strc_stage_weights.specs.FiringWork.{firing_works}
use Rattle.strc_stage_weights.proofs.firing_work.firing_works.Given as goal

abbrev pub invariant-loop-node : goal.invariant-loop-node
invariant-loop-node l = l.works.items ≡ firing_works (map node_view (take l.node-index l.nodes))
