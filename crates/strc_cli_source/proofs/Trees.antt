-- Streams by their nodes: the children are those of the vector that holds them.
use Rattle.std.proofs.Common.{◌≡◌, ℕ, ℤ, Bool, List, Vec, Box, Global, refl, sym, ap, ◌∙◌}
use Rattle.std.proofs.Common.{Option, is_some}
use mathlib.Core.Former.{Count}
use Rattle.strc_elab_graph.specs.declared.graph.Splitter.{Splitter}
use Rattle.strc_elab_graph.specs.Carriers.{carries_in, splitter_carries}
use Rattle.strc_elab_graph.specs.Graphs.{Joiner}
use Rattle.strc_elab_graph.specs.NodeView.{splitter_view}
use Rattle.strc_elab_stream.specs.declared.stream.Stream.{Stream, Row_of-Stream, end_of-Stream}
use Rattle.strc_elab_stream.specs.declared.stream.Stream.{more_of-Stream, items-the_row-Stream}
use Rattle.strc_elab_stream.specs.declared.stream.Stream.{items_hidden-the_row-Stream-0, Pipeline'}
use Rattle.strc_elab_stream.specs.declared.stream.Stream.{Pipeline, SplitJoin, FeedbackLoop}
use Rattle.strc_cli_source.specs.Preorders.{Row, Sides, Loop, More, tree_of, row_of, trees_of}

abbrev children_of : Stream → (n : Count) × Row_of-Stream n
children_of (Pipeline' _ row) = (_, row)
children_of _ = (_, end_of-Stream)

row_of-items : (n : _) (row : Row_of-Stream n)
    → row_of row ≡ trees_of (items-the_row-Stream n row)
row_of-items n end_of-Stream = refl
row_of-items n (more_of-Stream first rest) = ap (More (tree_of first)) (row_of-items _ rest)

row_of-contained : (children : Vec Stream Global)
    → row_of (children_of (Pipeline children)).1 ≡ trees_of children.items
row_of-contained children =
    let row = children_of (Pipeline children) in
    row_of-items row.0 row.1 ∙ ap trees_of (items_hidden-the_row-Stream-0 children)

-- the tree of a stream that is a pipeline, by the list that is borrowed
pub pipeline_tree : (stream : Stream) (children : Vec Stream Global) (contained : List Stream)
    → stream ≡ Pipeline children → contained ≡ children.items
    → tree_of stream ≡ Row (trees_of contained)
pipeline_tree stream children contained is same =
    ap tree_of is ∙ ap Row (row_of-contained children ∙ ap trees_of (sym same))

-- and that of a split-join
pub split_join_tree : (stream : Stream) (splitter : Option Splitter)
    (children : Vec Stream Global) (joiner : Option (Vec ℕ Global)) (contained : List Stream)
    (splits joins : Bool)
    → stream ≡ SplitJoin splitter children joiner → contained ≡ children.items
    → splits ≡ is_some splitter → joins ≡ is_some joiner
    → tree_of stream ≡ Sides splits (trees_of contained) joins
split_join_tree stream splitter children joiner contained splits joins is same split join =
    rw (split, join) (ap tree_of is
    ∙ ap (λ row. Sides (is_some splitter) row (is_some joiner))
    (row_of-contained children ∙ ap trees_of (sym same)))

-- and that of a feedback loop, by the streams that are borrowed
pub loop_tree : (stream : Stream) (joiner : Vec ℕ Global) (body : Box Stream Global)
    (splitter : Splitter) (back : Box Stream Global) (enqueued : Vec ℤ Global)
    (inner outer : Stream)
    → stream ≡ FeedbackLoop joiner body splitter back enqueued
    → inner ≡ body.value → outer ≡ back.value
    → tree_of stream ≡ Loop (carries_in (Joiner joiner.items) 0) (tree_of inner)
    (splitter_carries (splitter_view splitter) 0) (tree_of outer)
loop_tree stream joiner body splitter back enqueued inner outer is inner_is outer_is =
    rw (inner_is, outer_is) (ap tree_of is)
