-- Each node has its outermost loop or none.
use Rattle.std.proofs.Common.{◌≡◌, ℕ, zero, suc, ◌+◌, List, [], ◌∷◌, ◌++◌, length, map, replicate}
use Rattle.std.proofs.Common.{Some, None, Option, refl, ap, arith, length-append}
use Rattle.strc_elab_graph.specs.Graphs.{NodeCode}
use Rattle.strc_elab_stream.specs.Instances.{Stream, Streams, Filter, Identity, FileReader}
use Rattle.strc_elab_stream.specs.Instances.{FileWriter}
use Rattle.strc_elab_stream.specs.Instances.{Pipeline, SplitJoin, FeedbackLoop, Done, More}
use Rattle.strc_elab_stream.specs.Flattening.{nodes_of, row_nodes, size_of, splitter_nodes}
use Rattle.strc_elab_stream.specs.Flattening.{joiner_nodes}
use Rattle.strc_elab_stream.specs.Flattening.{outer_loops, row_loops}

abbrev Loops : Type 0
Loops = List (Option ℕ)

both : (loops more : Loops) (nodes others : List NodeCode) → length loops ≡ length nodes
    → length more ≡ length others → length (loops ++ more) ≡ length (nodes ++ others)
both loops more nodes others e f =
    omega (arith, length-append loops more, length-append nodes others)

abbrev no_loop : NodeCode → Option ℕ
no_loop node = None

none_each : (nodes : List NodeCode) → length (map no_loop nodes) ≡ length nodes
none_each [] = refl
none_each (node ∷ nodes) = ap suc (none_each nodes)

same_each : (count : ℕ) (loop : Option ℕ) → length (replicate count loop) ≡ count
same_each zero loop = refl
same_each (suc count) loop = ap suc (same_each count loop)

mutual
  pub loops_are_by_node : (stream : Stream) (first : ℕ)
      → length (outer_loops first stream) ≡ length (nodes_of stream)
  loops_are_by_node (Filter name filter) first = refl
  loops_are_by_node Identity first = refl
  loops_are_by_node (FileReader text) first = refl
  loops_are_by_node (FileWriter text) first = refl
  loops_are_by_node (Pipeline children) first = row_is_by_node children first
  loops_are_by_node (SplitJoin splitter children joiner) first =
      both _ _ (splitter_nodes splitter ++ row_nodes children) (joiner_nodes joiner)
      (both _ _ (splitter_nodes splitter) (row_nodes children)
      (none_each (splitter_nodes splitter)) (row_is_by_node children _))
      (none_each (joiner_nodes joiner))
  loops_are_by_node (FeedbackLoop joiner body splitter loop enqueued) first =
      same_each (size_of (FeedbackLoop joiner body splitter loop enqueued)) (Some first)

  row_is_by_node : (children : Streams) (first : ℕ)
      → length (row_loops first children) ≡ length (row_nodes children)
  row_is_by_node Done first = refl
  row_is_by_node (More next rest) first =
      both _ _ (nodes_of next) (row_nodes rest) (loops_are_by_node next first)
      (row_is_by_node rest (first + size_of next))
