use Rattle.std.proofs.Common.{◌≡◌, ◌+◌, drop, length}
use Rattle.strc_elab_stream.specs.Flattening.{row_nodes}
use Rattle.strc_elab_stream.specs.View.{streams_view}
use Rattle.strc_elab_flattening.proofs.size.+size.Given as goal

-- those so far, and those of the streams left
abbrev pub invariant-row_size-loop-stream : goal.invariant-row_size-loop-stream
invariant-row_size-loop-stream l =
    l.count + length (row_nodes (streams_view (drop l.stream-index l.streams)))
    ≡ length (row_nodes (streams_view l.streams))
