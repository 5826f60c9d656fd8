use Rattle.std.proofs.Common.{◌↔◌, drop}
use Rattle.strc_elab_flattening.specs.HasNodes.{HaveNodes}
use Rattle.strc_elab_stream.specs.View.{streams_view}
use Rattle.strc_elab_flattening.proofs.parts.+parts.Given as goal

-- all have nodes if those left do
abbrev pub invariant-are_children-loop-stream : goal.invariant-are_children-loop-stream
invariant-are_children-loop-stream l =
    HaveNodes (streams_view (drop l.stream-index l.streams)) ↔ HaveNodes (streams_view l.streams)
