use Rattle.std.proofs.Common.{◌≡◌, length, take, map}
use Rattle.strc_elab_graph.specs.NodeView.{channel_view}
use Rattle.strc_elab_flattening.proofs.Trees.{AreJoined}
use Rattle.strc_elab_flattening.proofs.connection.are_connected.Given as goal

-- the trees are those of the channels so far
abbrev pub invariant-loop-channel : goal.invariant-loop-channel
invariant-loop-channel l = (length l.parents.items ≡ l.count)
    × AreJoined l.parents.items (map channel_view (take l.channel-index l.channels))
