-- Declared streams as contracts speak of them.
use Rattle.std.specs.Prelude.{List, [], ◌∷◌}
use Rattle.std.specs.Option.{option_map}
use Rattle.strc_work_meaning.specs.Filters.{filter_of}
use Rattle.strc_elab_graph.specs.NodeView.{splitter_view}
use Rattle.strc_elab_stream.specs.Instances as instances
use Rattle.strc_elab_stream.specs.declared.stream.Stream.{Stream, Row_of-Stream, end_of-Stream}
use Rattle.strc_elab_stream.specs.declared.stream.Stream.{more_of-Stream}
use Rattle.strc_elab_stream.specs.declared.stream.Stream.TheVariants as stream

abbrev mutual
  -- a stream
  pub stream_view : Stream → instances.Stream
  stream_view (stream.Filter instance) = instances.Filter instance.name (filter_of instance.code)
  stream_view stream.Identity = instances.Identity
  stream_view (stream.FileReader text) = instances.FileReader text
  stream_view (stream.FileWriter text) = instances.FileWriter text
  stream_view (stream.Pipeline' shape children) = instances.Pipeline (row_view children)
  stream_view (stream.SplitJoin' splitter shape children joiner) =
      instances.SplitJoin (option_map splitter_view splitter) (row_view children)
      (option_map (λ weights. weights.items) joiner)
  stream_view (stream.FeedbackLoop' joiner at body splitter at' loop enqueued) =
      instances.FeedbackLoop joiner.items (stream_view body) (splitter_view splitter)
      (stream_view loop) enqueued.items
  stream_view (stream.Placed' added at inner) = stream_view inner

  pub row_view : {m : _} → Row_of-Stream m → instances.Streams
  row_view end_of-Stream = instances.Done
  row_view (more_of-Stream first rest) = instances.More (stream_view first) (row_view rest)

-- streams in a row
abbrev pub streams_view : List Stream → instances.Streams
streams_view [] = instances.Done
streams_view (first ∷ rest) = instances.More (stream_view first) (streams_view rest)
