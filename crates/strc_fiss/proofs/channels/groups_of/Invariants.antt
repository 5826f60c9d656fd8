use Rattle.std.proofs.Common.{take, map, length}
use Rattle.strc_elab_graph.specs.NodeView.{channel_view}
use Rattle.strc_fiss.specs.Groups.{AreGroups}
use Rattle.strc_fiss.specs.Numbers.{share_at}
use Rattle.strc_fiss.specs.Splitting.{wires_of}
use Rattle.strc_fiss.specs.WireView.{group_view}
use Rattle.strc_fiss.proofs.channels.groups_of.Given as goal

abbrev pub invariant-loop-number : goal.invariant-loop-number
invariant-loop-number l =
    AreGroups (share_at l.shares)
    (take l.number (wires_of (map channel_view l.graph.channels) l.schedule.greatest
    l.schedule.last))
    (length l.graph.nodes) (map group_view l.groups.items)
