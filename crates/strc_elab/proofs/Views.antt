-- Declared streams of several parts as contracts speak of them.
use Rattle.std.proofs.Common.{◌≡◌, ℕ, ℤ, List, [], ◌∷◌, map, Option, Vec, Box, Global, refl, ap}
use Rattle.std.proofs.Common.{◌∙◌, option_map}
use mathlib.Core.Former.{Count}
use Rattle.strc_parse_tree.specs.declared.tree.StreamType.{StreamType}
use Rattle.strc_elab_graph.specs.declared.graph.Splitter.{Splitter}
use Rattle.strc_elab_graph.specs.NodeView.{splitter_view}
use Rattle.strc_elab_stream.specs.declared.stream.Stream.{Stream, Row_of-Stream, end_of-Stream}
use Rattle.strc_elab_stream.specs.declared.stream.Stream.{more_of-Stream, items-the_row-Stream}
use Rattle.strc_elab_stream.specs.declared.stream.Stream.{items_hidden-the_row-Stream-0, Pipeline'}
use Rattle.strc_elab_stream.specs.declared.stream.Stream.{SplitJoin'}
use Rattle.strc_elab_stream.specs.declared.stream.Stream.{Pipeline, SplitJoin, FeedbackLoop}
use Rattle.strc_elab_stream.specs.Instances as instances
use Rattle.strc_elab_stream.specs.Instances.{in_a_row}
use Rattle.strc_elab_stream.specs.View.{stream_view, row_view, streams_view}
use Rattle.strc_elab.specs.Elaboration.{Elaborated}

-- a stream of these types, with its totals
abbrev pub elaborated_of : StreamType → instances.Stream → (turns filters : ℕ) → Elaborated
elaborated_of types stream turns filters = record {
  stream = stream;
  types = types;
  totals = record { turns = turns; filters = filters };
}

abbrev row_of : Stream → (n : Count) × Row_of-Stream n
row_of (Pipeline' _ row) = (_, row)
row_of (SplitJoin' splitter _ row joiner) = (_, row)
row_of _ = (_, end_of-Stream)

row_view-items : (n : _) (row : Row_of-Stream n)
    → row_view row ≡ streams_view (items-the_row-Stream n row)
row_view-items n end_of-Stream = refl
row_view-items n (more_of-Stream first rest) =
    ap (instances.More (stream_view first)) (row_view-items _ rest)

in_a_row-views : (streams : List Stream) → streams_view streams ≡ in_a_row (map stream_view streams)
in_a_row-views [] = refl
in_a_row-views (first ∷ rest) = ap (instances.More (stream_view first)) (in_a_row-views rest)

-- a pipeline of streams is that of their views in a row
pub stream_view-Pipeline : (children : Vec Stream Global)
    → stream_view (Pipeline children) ≡ instances.Pipeline
    (in_a_row (map stream_view children.items))
stream_view-Pipeline children =
    let row = row_of (Pipeline children) in
    ap instances.Pipeline (row_view-items row.0 row.1
    ∙ ap streams_view (items_hidden-the_row-Stream-0 children)
    ∙ in_a_row-views children.items)

-- and so is a split-join
pub stream_view-SplitJoin : (splitter : Option Splitter) (children : Vec Stream Global)
    (joiner : Option (Vec ℕ Global))
    → stream_view (SplitJoin splitter children joiner) ≡ instances.SplitJoin
    (option_map splitter_view splitter) (in_a_row (map stream_view children.items))
    (option_map (λ w. w.items) joiner)
stream_view-SplitJoin splitter children joiner =
    let row = row_of (SplitJoin splitter children joiner) in
    ap (λ streams. instances.SplitJoin (option_map splitter_view splitter) streams
    (option_map (λ w. w.items) joiner))
    (row_view-items row.0 row.1
    ∙ ap streams_view (items_hidden-the_row-Stream-0 children)
    ∙ in_a_row-views children.items)

-- a feedback loop is that of its parts' views
pub stream_view-FeedbackLoop : (joiner : Vec ℕ Global) (body : Box Stream Global)
    (splitter : Splitter) (loop : Box Stream Global) (enqueued : Vec ℤ Global)
    → stream_view (FeedbackLoop joiner body splitter loop enqueued)
    ≡ instances.FeedbackLoop joiner.items (stream_view body.value) (splitter_view splitter)
    (stream_view loop.value) enqueued.items
stream_view-FeedbackLoop joiner body splitter loop enqueued = refl

-- what is made, part by part
pub elaborated_same : (types : StreamType) (one other : instances.Stream) (turns turns' : ℕ)
    (filters filters' : ℕ) → one ≡ other → turns ≡ turns' → filters ≡ filters'
    → elaborated_of types one turns filters ≡ elaborated_of types other turns' filters'
elaborated_same types one other turns turns' filters filters' is turned counted =
    ap (λ s. elaborated_of types s turns filters) is
    ∙ ap (λ n. elaborated_of types other n filters) turned
    ∙ ap (elaborated_of types other turns') counted
