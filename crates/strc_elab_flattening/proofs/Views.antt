-- Declared streams as contracts speak of them: the children are those of the vector that holds
-- them.
use Rattle.std.proofs.Common.{◌≡◌, ℕ, ◌+◌, ◌<◌, List, [], ◌∷◌, ◌++◌, get_or, drop, length, Vec}
use Rattle.std.proofs.Common.{Global, refl, sym, ap, ◌∙◌, Option, length-append, arith}
use Rattle.std.specs.Option.{option_map}
use Rattle.std.proofs.lemmas.List.{at_drop_more}
use mathlib.Core.Former.{Count}
use Rattle.strc_elab_graph.specs.declared.graph.Splitter.{Splitter}
use Rattle.strc_elab_graph.specs.NodeView.{splitter_view}
use Rattle.strc_elab_stream.specs.declared.stream.Stream.{Stream, Row_of-Stream, end_of-Stream}
use Rattle.strc_elab_stream.specs.declared.stream.Stream.{more_of-Stream, items-the_row-Stream}
use Rattle.strc_elab_stream.specs.declared.stream.Stream.{items_hidden-the_row-Stream-0, Pipeline'}
use Rattle.strc_elab_stream.specs.declared.stream.Stream.{Pipeline, SplitJoin}
use Rattle.strc_elab_stream.specs.Instances as instances
use Rattle.strc_elab_stream.specs.Flattening.{size_of, row_nodes, splitter_nodes, joiner_nodes}
use Rattle.strc_elab_stream.specs.Types.{HasFirst}
use Rattle.strc_elab_stream.specs.View.{stream_view, row_view, streams_view}

abbrev row_of : Stream → (n : Count) × Row_of-Stream n
row_of (Pipeline' _ row) = (_, row)
row_of _ = (_, end_of-Stream)

row_view-items : (n : _) (row : Row_of-Stream n)
    → row_view row ≡ streams_view (items-the_row-Stream n row)
row_view-items n end_of-Stream = refl
row_view-items n (more_of-Stream first rest) =
    ap (instances.More (stream_view first)) (row_view-items _ rest)

row_view-contained : (children : Vec Stream Global)
    → row_view (row_of (Pipeline children)).1 ≡ streams_view children.items
row_view-contained children =
    let row = row_of (Pipeline children) in
    row_view-items row.0 row.1 ∙ ap streams_view (items_hidden-the_row-Stream-0 children)

-- a pipeline holds the streams of its list
pub stream_view-Pipeline : (children : Vec Stream Global)
    → stream_view (Pipeline children) ≡ instances.Pipeline (streams_view children.items)
stream_view-Pipeline children = ap instances.Pipeline (row_view-contained children)

-- and so does a split-join
pub stream_view-SplitJoin : (splitter : Option Splitter) (children : Vec Stream Global)
    (joiner : Option (Vec ℕ Global))
    → stream_view (SplitJoin splitter children joiner)
    ≡ instances.SplitJoin (option_map splitter_view splitter) (streams_view children.items)
    (option_map (λ weights. weights.items) joiner)
stream_view-SplitJoin splitter children joiner =
    ap (λ row. instances.SplitJoin (option_map splitter_view splitter) row
    (option_map (λ weights. weights.items) joiner)) (row_view-contained children)

-- the streams from a place on: the one there, and those after it
pub streams_view-drop : (streams : List Stream) (index : ℕ) (stream : Stream)
    → index < length streams → stream ≡ get_or streams index stream
    → streams_view (drop index streams)
    ≡ instances.More (stream_view stream) (streams_view (drop (index + 1) streams))
streams_view-drop streams index stream less is =
    at_drop_more streams_view streams index stream less
    ∙ ap (λ (s : Stream). instances.More (stream_view s) (streams_view (drop (index + 1) streams)))
    (sym is)

-- the view of a stream that is a pipeline, by the list that is borrowed
pub pipeline_view : (stream : Stream) (children : Vec Stream Global) (contained : List Stream)
    → stream ≡ Pipeline children → contained ≡ children.items
    → stream_view stream ≡ instances.Pipeline (streams_view contained)
pipeline_view stream children contained is same =
    ap stream_view is ∙ stream_view-Pipeline children
    ∙ ap (λ l. instances.Pipeline (streams_view l)) (sym same)

pub split_join_view : (stream : Stream) (splitter : Option Splitter)
    (children : Vec Stream Global) (joiner : Option (Vec ℕ Global)) (contained : List Stream)
    → stream ≡ SplitJoin splitter children joiner → contained ≡ children.items
    → stream_view stream
    ≡ instances.SplitJoin (option_map splitter_view splitter) (streams_view contained)
    (option_map (λ weights. weights.items) joiner)
split_join_view stream splitter children joiner contained is same =
    ap stream_view is ∙ stream_view-SplitJoin splitter children joiner
    ∙ ap (λ l. instances.SplitJoin (option_map splitter_view splitter) (streams_view l)
    (option_map (λ weights. weights.items) joiner)) (sym same)

-- how many nodes those have

pub pipeline_size : (stream : Stream) (children : Vec Stream Global) (contained : List Stream)
    → stream ≡ Pipeline children → contained ≡ children.items
    → size_of (stream_view stream) ≡ length (row_nodes (streams_view contained))
pipeline_size stream children contained is same =
    ap size_of (pipeline_view stream children contained is same)

pub split_join_size : (stream : Stream) (splitter : Option Splitter)
    (children : Vec Stream Global) (joiner : Option (Vec ℕ Global)) (contained : List Stream)
    → stream ≡ SplitJoin splitter children joiner → contained ≡ children.items
    → size_of (stream_view stream)
    ≡ length (splitter_nodes (option_map splitter_view splitter))
    + length (row_nodes (streams_view contained))
    + length (joiner_nodes (option_map (λ weights. weights.items) joiner))
split_join_size stream splitter children joiner contained is same =
    let one = splitter_nodes (option_map splitter_view splitter) in
    let row = row_nodes (streams_view contained) in
    let last = joiner_nodes (option_map (λ weights. weights.items) joiner) in
    ap size_of (split_join_view stream splitter children joiner contained is same)
    ∙ length-append (one ++ row) last
    ∙ ap (λ n. n + length last) (length-append one row)

-- there is a first stream where there are streams
pub first_there : (streams : List Stream) → 0 < length streams → HasFirst (streams_view streams)
first_there [] some = absurd (omega arith)
first_there (first ∷ rest) some = tt

pub some_there : (streams : List Stream) → HasFirst (streams_view streams) → 0 < length streams
some_there [] first = absurd first
some_there (first ∷ rest) there = omega arith
