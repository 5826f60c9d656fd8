-- The outline of a stream whose children are those of the vector that holds them.
use Rattle.std.proofs.Common.{◌≡◌, ℕ, ℤ, Bool, List, Vec, Box, Global, refl, sym, ap, ◌∙◌, ◌++◌, []}
use Rattle.std.proofs.Common.{Option, is_some, codes, ◌∷◌, append_assoc}
use mathlib.Core.Former.{Count}
use Rattle.strc_elab_graph.specs.declared.graph.Splitter.{Splitter}
use Rattle.strc_elab_stream.specs.declared.stream.Stream.{Stream, Row_of-Stream, end_of-Stream}
use Rattle.strc_elab_stream.specs.declared.stream.Stream.{more_of-Stream, items-the_row-Stream}
use Rattle.strc_elab_stream.specs.declared.stream.Stream.{items_hidden-the_row-Stream-0, Pipeline'}
use Rattle.strc_elab_stream.specs.declared.stream.Stream.{Pipeline, SplitJoin, FeedbackLoop}
use Rattle.strc_elab_paths.specs.declared.outline.Part.{Part}
use Rattle.strc_elab_paths.specs.declared.outline.Part.TheVariants as part
use Rattle.strc_elab_paths.specs.Outlines.{outline, row_outline, streams_outline, within, node_if}

abbrev children_of : Stream → (n : Count) × Row_of-Stream n
children_of (Pipeline' _ row) = (_, row)
children_of _ = (_, end_of-Stream)

row_outline-items : (n : _) (row : Row_of-Stream n)
    → row_outline row ≡ streams_outline (items-the_row-Stream n row)
row_outline-items n end_of-Stream = refl
row_outline-items n (more_of-Stream first rest) =
    ap (λ l. outline [] first ++ l) (row_outline-items _ rest)

row_outline-contained : (children : Vec Stream Global)
    → row_outline (children_of (Pipeline children)).1 ≡ streams_outline children.items
row_outline-contained children =
    let row = children_of (Pipeline children) in
    row_outline-items row.0 row.1
    ∙ ap streams_outline (items_hidden-the_row-Stream-0 children)

-- that of a pipeline, by the list that is borrowed
pub pipeline_outline : (name : List ℕ) (stream : Stream) (children : Vec Stream Global)
    (contained : List Stream) → stream ≡ Pipeline children → contained ≡ children.items
    → outline name stream ≡ within name (codes "pipeline") (streams_outline contained)
pipeline_outline name stream children contained is same =
    ap (outline name) is ∙ ap (within name (codes "pipeline")) (row_outline-contained children
    ∙ ap streams_outline (sym same))

-- and of a split-join
pub split_join_outline : (name : List ℕ) (stream : Stream) (splitter : Option Splitter)
    (children : Vec Stream Global) (joiner : Option (Vec ℕ Global)) (contained : List Stream)
    (splits joins : Bool)
    → stream ≡ SplitJoin splitter children joiner → contained ≡ children.items
    → splits ≡ is_some splitter → joins ≡ is_some joiner
    → outline name stream ≡ within name (codes "split-join") (node_if splits (codes "split")
    ++ streams_outline contained ++ node_if joins (codes "join"))
split_join_outline name stream splitter children joiner contained splits joins is same split join =
    rw (split, join) (ap (outline name) is
    ∙ ap (λ row. within name (codes "split-join") (node_if (is_some splitter) (codes "split")
    ++ row ++ node_if (is_some joiner) (codes "join")))
    (row_outline-contained children ∙ ap streams_outline (sym same)))

-- and of a feedback loop, by the streams that are borrowed
pub loop_outline : (name : List ℕ) (stream : Stream) (joiner : Vec ℕ Global)
    (body : Box Stream Global) (splitter : Splitter) (back : Box Stream Global)
    (enqueued : Vec ℤ Global) (inner outer : Stream)
    → stream ≡ FeedbackLoop joiner body splitter back enqueued
    → inner ≡ body.value → outer ≡ back.value
    → outline name stream ≡ within name (codes "feedback loop")
    (part.Node (codes "join") ∷ outline [] inner ++ part.Node (codes "split") ∷ outline [] outer)
loop_outline name stream joiner body splitter back enqueued inner outer is inner_is outer_is =
    rw (inner_is, outer_is) (ap (outline name) is)

-- parts that are added between the beginning and the end of a composite stream
pub wrapped : (before one two after : List Part) (opened : Part) (inside : List Part)
    → one ≡ before ++ opened ∷ [] → two ≡ one ++ inside → after ≡ two ++ part.Close ∷ []
    → after ≡ before ++ (opened ∷ (inside ++ part.Close ∷ []))
wrapped before one two after opened inside first rest last =
    last ∙ ap (λ (l : List Part). l ++ part.Close ∷ [])
    (rest ∙ ap (λ (l : List Part). l ++ inside) first)
    ∙ append_assoc (before ++ opened ∷ []) inside (part.Close ∷ [])
    ∙ append_assoc before (opened ∷ []) (inside ++ part.Close ∷ [])

-- three lists of parts, one after another
pub three : (one two three four a b c : List Part) → two ≡ one ++ a → three ≡ two ++ b
    → four ≡ three ++ c → four ≡ one ++ ((a ++ b) ++ c)
three one two third four a b c first second last =
    last ∙ ap (λ (l : List Part). l ++ c) (second ∙ ap (λ (l : List Part). l ++ b) first
    ∙ append_assoc one a b) ∙ append_assoc one (a ++ b) c

-- a node, parts, a node, and parts
pub two_and_two : (one two three four five body back : List Part) (join split : Part)
    → two ≡ one ++ join ∷ [] → three ≡ two ++ body → four ≡ three ++ split ∷ []
    → five ≡ four ++ back → five ≡ one ++ (join ∷ (body ++ split ∷ back))
two_and_two one two third four five body back join split first second fourth last =
    last ∙ ap (λ (l : List Part). l ++ back) (fourth
    ∙ ap (λ (l : List Part). l ++ split ∷ []) (second
    ∙ ap (λ (l : List Part). l ++ body) first))
    ∙ append_assoc ((one ++ join ∷ []) ++ body) (split ∷ []) back
    ∙ append_assoc (one ++ join ∷ []) body (split ∷ back)
    ∙ append_assoc one (join ∷ []) (body ++ split ∷ back)
