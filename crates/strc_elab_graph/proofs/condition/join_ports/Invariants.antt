use Rattle.std.proofs.Common.{take, map, All}
use Rattle.strc_elab_graph.specs.Graphs.{JoinsPorts}
use Rattle.strc_elab_graph.specs.NodeView.{node_view, channel_view}
use Rattle.strc_elab_graph.proofs.condition.join_ports.Given as goal

abbrev pub invariant-loop-channel : goal.invariant-loop-channel
invariant-loop-channel l =
    All (JoinsPorts (map node_view l.nodes)) (map channel_view (take l.channel-index l.channels))
