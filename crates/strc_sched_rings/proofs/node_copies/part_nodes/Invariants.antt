use Rattle.std.proofs.Common.{◌≡◌, ◌++◌, drop, map}
use Rattle.strc_elab_graph.specs.NodeView.{node_view}
use Rattle.strc_sched_rings.specs.Parts.{part_codes}
use Rattle.strc_sched_rings.proofs.node_copies.part_nodes.Given as goal

abbrev pub invariant-loop-number : goal.invariant-loop-number
invariant-loop-number l =
    map node_view l.part.items
    ++ part_codes l.first l.next l.number (drop l.number (map node_view l.nodes))
    ≡ part_codes l.first l.next 0 (map node_view l.nodes)
