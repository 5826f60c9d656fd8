use Rattle.std.proofs.Common.{◌≡◌, ◌++◌, drop, map}
use Rattle.strc_elab_graph.specs.NodeView.{node_view}
use Rattle.strc_elab_stream.specs.Flattening.{row_nodes}
use Rattle.strc_elab_stream.specs.View.{streams_view}
use Rattle.strc_elab_flattening.proofs.nodes.+nodes.Given as goal

-- the nodes so far, and then those of the streams left
abbrev pub invariant-collect_row-loop-stream : goal.invariant-collect_row-loop-stream
invariant-collect_row-loop-stream l =
    map node_view l.nodes.items ++ row_nodes (streams_view (drop l.stream-index l.streams))
    ≡ map node_view l.initial.nodes.items ++ row_nodes (streams_view l.streams)
