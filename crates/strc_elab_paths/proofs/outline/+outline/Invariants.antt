use Rattle.std.proofs.Common.{◌≡◌, ◌++◌, drop}
use Rattle.strc_elab_paths.specs.Outlines.{streams_outline}
use Rattle.strc_elab_paths.proofs.outline.+outline.Given as goal

-- the parts so far, and then those of the streams left
abbrev pub invariant-push_row-loop-stream : goal.invariant-push_row-loop-stream
invariant-push_row-loop-stream l =
    l.parts.items ++ streams_outline (drop l.stream-index l.streams)
    ≡ l.initial.parts.items ++ streams_outline l.streams
