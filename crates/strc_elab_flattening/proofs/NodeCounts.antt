-- Streams whose parts all have nodes: each stream has one, so there are no more streams in a row
-- than nodes.
use Rattle.std.proofs.Common.{◌<◌, ◌≤◌, List, [], ◌∷◌, ◌++◌, length, length-append}
use Rattle.std.proofs.Common.{arith}
use Rattle.strc_elab_stream.specs.declared.stream.Stream.{Stream}
use Rattle.strc_elab_stream.specs.Instances as instances
use Rattle.strc_elab_stream.specs.Instances.{Streams, Filter, Identity, FileReader, FileWriter}
use Rattle.strc_elab_stream.specs.Instances.{Pipeline}
use Rattle.strc_elab_stream.specs.Instances.{SplitJoin, FeedbackLoop, Done, More}
use Rattle.strc_elab_stream.specs.Flattening.{nodes_of, row_nodes, splitter_nodes, joiner_nodes}
use Rattle.strc_elab_stream.specs.Types.{HasFirst, IsWellTyped, AreWellTyped, AreEach}
use Rattle.strc_elab_stream.specs.View.{stream_view, streams_view}
use Rattle.strc_elab_flattening.specs.HasNodes.{HasNodes, HaveNodes}

mutual
  pub some_node : (stream : instances.Stream) → HasNodes stream → 0 < length (nodes_of stream)
  some_node (Filter name filter) has = omega arith
  some_node Identity has = omega arith
  some_node (FileReader text) has = omega arith
  some_node (FileWriter text) has = omega arith
  some_node (Pipeline children) has = some_in_row children has.0 has.1
  some_node (SplitJoin splitter children joiner) has =
      let some = some_in_row children has.0 has.1 in
      omega (
        arith,
        length-append (splitter_nodes splitter ++ row_nodes children) (joiner_nodes joiner),
        length-append (splitter_nodes splitter) (row_nodes children),
      )
  some_node (FeedbackLoop joiner body splitter loop enqueued) has = omega arith

  some_in_row : (streams : Streams) → HasFirst streams → HaveNodes streams
      → 0 < length (row_nodes streams)
  some_in_row Done first have = absurd first
  some_in_row (More stream rest) first have =
      let some = some_node stream have.0 in
      omega (arith, length-append (nodes_of stream) (row_nodes rest))

-- no more streams than nodes
pub few_streams : (streams : List Stream) → HaveNodes (streams_view streams)
    → length streams ≤ length (row_nodes (streams_view streams))
few_streams [] have = omega arith
few_streams (first ∷ rest) have =
    let few = few_streams rest have.1 in
    let some = some_node (stream_view first) have.0 in
    omega (
      arith,
      length-append (nodes_of (stream_view first)) (row_nodes (streams_view rest)),
    )

mutual
  -- the parts of a well-typed stream have nodes
  pub typed_has_nodes : (stream : instances.Stream) → IsWellTyped stream → HasNodes stream
  typed_has_nodes (Filter name filter) typed = tt
  typed_has_nodes Identity typed = tt
  typed_has_nodes (FileReader text) typed = tt
  typed_has_nodes (FileWriter text) typed = tt
  typed_has_nodes (Pipeline children) typed = (typed.0, typed_have_nodes children typed.1)
  typed_has_nodes (SplitJoin splitter children joiner) typed =
      (typed.0, each_have_nodes children typed.1)
  typed_has_nodes (FeedbackLoop joiner body splitter loop enqueued) typed =
      (typed_has_nodes body typed.3, typed_has_nodes loop typed.5)

  typed_have_nodes : (streams : Streams) → AreWellTyped streams → HaveNodes streams
  typed_have_nodes Done typed = tt
  typed_have_nodes (More first rest) typed =
      (typed_has_nodes first typed.0, typed_have_nodes rest typed.2)

  each_have_nodes : (streams : Streams) → AreEach streams → HaveNodes streams
  each_have_nodes Done typed = tt
  each_have_nodes (More first rest) typed =
      (typed_has_nodes first typed.0, each_have_nodes rest typed.1)
