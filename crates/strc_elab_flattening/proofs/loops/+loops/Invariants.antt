use Rattle.std.proofs.Common.{◌≡◌, ◌+◌, ◌≤◌, ◌++◌, drop, length}
use Rattle.strc_elab_stream.specs.Flattening.{row_nodes, row_loops}
use Rattle.strc_elab_stream.specs.View.{streams_view}
use Rattle.strc_elab_flattening.specs.Verdicts.{node_limit}
use Rattle.strc_elab_flattening.proofs.loops.+loops.Given as goal

-- those so far, and then those of the streams left
abbrev pub invariant-push_row-loop-stream : goal.invariant-push_row-loop-stream
invariant-push_row-loop-stream l = record {
  few : l.next + length (row_nodes (streams_view (drop l.stream-index l.streams))) ≤ node_limit;
  loops : l.loops.items ++ row_loops l.next (streams_view (drop l.stream-index l.streams))
      ≡ l.initial.loops.items ++ row_loops l.first (streams_view l.streams);
}
