use Rattle.std.proofs.Common.{◌≡◌, ◌++◌, drop, map}
use Rattle.strc_elab_graph.specs.NodeView.{node_view}
use Rattle.strc_cli_tapes.specs.TapeNames.{own_tapes}
use Rattle.strc_cli_tapes.proofs.names.own_list.Given as goal

-- the tapes so far and those of the nodes left are all
abbrev pub invariant-loop-node : goal.invariant-loop-node
invariant-loop-node l =
    map (λ it. (it.node, it.name.now)) l.owns.items
    ++ own_tapes l.node (map node_view (drop l.node l.nodes))
    ≡ own_tapes 0 (map node_view l.nodes)
