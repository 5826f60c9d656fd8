use Rattle.std.proofs.Common.{◌≡◌, ◌+◌, drop, map}
use Rattle.strc_elab_graph.specs.NodeView.{node_view}
use Rattle.strc_cli_pictures.specs.Pictures.{tape_count}
use Rattle.strc_cli_pictures.proofs.tapes.count_tapes.Given as goal

-- those so far, and those among the nodes left
abbrev pub invariant-loop-node : goal.invariant-loop-node
invariant-loop-node l =
    l.count + tape_count (map node_view (drop l.node-index l.nodes))
    ≡ tape_count (map node_view l.nodes)
