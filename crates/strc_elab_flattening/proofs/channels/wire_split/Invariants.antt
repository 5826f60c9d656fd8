use Rattle.std.proofs.Common.{◌≡◌, ◌+◌, ◌≤◌, ◌++◌, drop, length, map}
use Rattle.strc_elab_graph.specs.NodeView.{channel_view, splitter_view}
use Rattle.strc_elab_stream.specs.Flattening.{row_nodes}
use Rattle.strc_elab_stream.specs.Types.{splitter_carried}
use Rattle.strc_elab_stream.specs.View.{streams_view}
use Rattle.strc_elab_stream.specs.Wires.{split_wires}
use Rattle.strc_elab_flattening.specs.Verdicts.{node_limit}
use Rattle.strc_elab_flattening.proofs.channels.wire_split.Given as goal

-- the channels so far, and then those to the streams left
abbrev pub invariant-loop-port : goal.invariant-loop-port
invariant-loop-port l = record {
  few : l.next + length (row_nodes (streams_view (drop l.port l.streams))) ≤ node_limit;
  channels : map channel_view l.channels.items
      ++ split_wires l.number l.port (drop l.port (splitter_carried (splitter_view l.splitter)))
      l.next (streams_view (drop l.port l.streams))
      ≡ map channel_view l.initial.channels.items
      ++ split_wires l.number 0 (splitter_carried (splitter_view l.splitter)) (l.number + 1)
      (streams_view l.streams);
}
