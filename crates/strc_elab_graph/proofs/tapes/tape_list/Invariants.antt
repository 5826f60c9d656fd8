use Rattle.std.proofs.Common.{◌≡◌, ◌++◌, map, drop}
use Rattle.strc_elab_graph.specs.NodeView.{node_view}
use Rattle.strc_elab_graph.specs.Tapes.{tape_nodes_from}
use Rattle.strc_elab_graph.proofs.tapes.tape_list.Given as goal

abbrev pub invariant-loop-node : goal.invariant-loop-node
invariant-loop-node l =
    l.tapes.items ++ tape_nodes_from l.node (drop l.node (map node_view l.nodes))
    ≡ tape_nodes_from 0 (map node_view l.nodes)
