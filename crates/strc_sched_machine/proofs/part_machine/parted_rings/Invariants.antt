use Rattle.std.proofs.Common.{◌≡◌, ◌++◌, drop, map}
use Rattle.strc_elab_graph.specs.NodeView.{channel_view}
use Rattle.strc_sched_machine.specs.Parts.{empty_rings}
use Rattle.strc_sched_machine.proofs.part_machine.parted_rings.Given as goal

abbrev pub invariant-loop-number : goal.invariant-loop-number
invariant-loop-number l =
    l.rings.items
    ++ empty_rings l.first l.next l.rooms l.number (drop l.number (map channel_view l.channels))
    ≡ empty_rings l.first l.next l.rooms 0 (map channel_view l.channels)
