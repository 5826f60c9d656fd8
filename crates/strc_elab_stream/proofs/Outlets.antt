-- What leaves a stream at its output port, by the node that it leaves.
use Rattle.std.proofs.Common.{◌≡◌, ℕ, zero, suc, ◌+◌, List, [], length, Some, None}
use Rattle.std.proofs.Common.{Option, refl, sym, ap, ◌∙◌}
use Rattle.std.specs.Option.{option_map}
use Rattle.strc_elab_dataflow.specs.Flat.{Source}
use Rattle.strc_elab_dataflow.specs.Flat as flat
use Rattle.strc_elab_dataflow.specs.Streams.{layout, pipeline_layout, branch_layout, node_layout}
use Rattle.strc_elab_dataflow.specs.Streams.{maybe_layout, chained_layout, beside_layout, nothing}
use Rattle.strc_elab_dataflow.specs.Streams.{fed_back_layout, source_at_0, prepend}
use Rattle.strc_elab_graph.specs.Graphs as graphs
use Rattle.strc_elab_graph.specs.Graphs.{SplitterCode}
use Rattle.strc_elab_stream.specs.Instances.{Stream, Streams, Filter, Identity, FileReader}
use Rattle.strc_elab_stream.specs.Instances.{FileWriter}
use Rattle.strc_elab_stream.specs.Instances.{Pipeline, SplitJoin, FeedbackLoop, Done, More}
use Rattle.strc_elab_stream.specs.Types.{IsWellTyped, AreWellTyped, AreEach, HasFirst}
use Rattle.strc_elab_stream.specs.Flattening.{tree_of, trees_of, row_nodes, size_of}
use Rattle.strc_elab_stream.specs.Flattening.{splitter_nodes}
use Rattle.strc_elab_stream.proofs.Nodes.{nodes_are_codes, branches_are_codes, splitter_codes}

-- what a node gives at a port
abbrev pub from : ℕ → ℕ → Source
from node port = record { enqueued = []; origin = flat.Port node port }

-- what a splitter gives, and a joiner, where there is one
abbrev pub splitter_outlet : ℕ → Option SplitterCode → ℕ → Source
splitter_outlet node None port = nothing
splitter_outlet node (Some splitter) port = from node port

abbrev pub joiner_outlet : ℕ → Option (List ℕ) → Source
joiner_outlet node None = nothing
joiner_outlet node (Some weights) = from node 0

abbrev mutual
  pub outlet : (first : ℕ) → Stream → Source
  outlet first (Filter name filter) = from first 0
  outlet first Identity = from first 0
  outlet first (FileReader text) = from first 0
  outlet first (FileWriter text) = from first 0
  outlet first (Pipeline children) = row_outlet first children
  outlet first (SplitJoin splitter children joiner) =
      joiner_outlet (first + length (splitter_nodes splitter) + length (row_nodes children)) joiner
  outlet first (FeedbackLoop joiner body splitter loop enqueued) =
      from (first + 1 + size_of body) 0

  pub row_outlet : (first : ℕ) → Streams → Source
  row_outlet first Done = nothing
  row_outlet first (More next Done) = outlet first next
  row_outlet first (More next (More other rest)) =
      row_outlet (first + size_of next) (More other rest)

-- those of streams side by side
abbrev pub branch_outlets : (first : ℕ) → Streams → ℕ → Source
branch_outlets first Done port = nothing
branch_outlets first (More next rest) zero = outlet first next
branch_outlets first (More next rest) (suc port) =
    branch_outlets (first + size_of next) rest port

-- they are those of the layout

pub splitter_outlet_is : (splitter : Option SplitterCode) (first port : ℕ)
    → (maybe_layout (option_map graphs.Splitter splitter)).outlet first port
    ≡ splitter_outlet first splitter port
unfolding maybe_layout node_layout
splitter_outlet_is None first port = refl
splitter_outlet_is (Some splitter) first port = refl

joiner_outlet_is : (joiner : Option (List ℕ)) (first : ℕ)
    → (maybe_layout (option_map graphs.Joiner joiner)).outlet first 0 ≡ joiner_outlet first joiner
unfolding maybe_layout node_layout
joiner_outlet_is None first = refl
joiner_outlet_is (Some weights) first = refl

mutual
  unfolding layout pipeline_layout branch_layout node_layout maybe_layout chained_layout
      beside_layout fed_back_layout source_at_0 prepend

  pub outlet_is : (stream : Stream) → IsWellTyped stream → (first : ℕ)
      → (layout (tree_of stream)).outlet first 0 ≡ outlet first stream
  outlet_is (Filter name filter) typed first = refl
  outlet_is Identity typed first = refl
  outlet_is (FileReader text) typed first = refl
  outlet_is (FileWriter text) typed first = refl
  outlet_is (Pipeline children) typed first = row_outlet_is children typed.0 typed.1 first
  outlet_is (SplitJoin splitter children joiner) typed first =
      joiner_outlet_is joiner _
      ∙ ap (λ n. joiner_outlet (first + n + length (branch_layout (trees_of children)).codes)
      joiner) (sym (ap length (splitter_codes splitter)))
      ∙ ap (λ n. joiner_outlet (first + length (splitter_nodes splitter) + n) joiner)
      (sym (ap length (branches_are_codes children typed.0 typed.1)))
  outlet_is (FeedbackLoop joiner body splitter loop enqueued) typed first =
      ap (λ n. from (first + 1 + n) 0) (sym (ap length (nodes_are_codes body typed.3)))

  row_outlet_is : (children : Streams) → HasFirst children → AreWellTyped children → (first : ℕ)
      → (pipeline_layout (trees_of children)).outlet first 0 ≡ row_outlet first children
  row_outlet_is Done filled typed first = absurd filled
  row_outlet_is (More next Done) filled typed first = outlet_is next typed.0 first
  row_outlet_is (More next (More other rest)) filled typed first =
      row_outlet_is (More other rest) tt typed.2 _
      ∙ ap (λ n. row_outlet (first + n) (More other rest))
      (sym (ap length (nodes_are_codes next typed.0)))

pub branch_outlets_are : (children : Streams) → HasFirst children → AreEach children
    → (first port : ℕ) → (branch_layout (trees_of children)).outlet first port
    ≡ branch_outlets first children port
unfolding branch_layout beside_layout maybe_layout prepend
branch_outlets_are Done filled typed first port = absurd filled
branch_outlets_are (More next Done) filled typed first zero = outlet_is next typed.0 first
branch_outlets_are (More next Done) filled typed first (suc port) = refl
branch_outlets_are (More next (More other rest)) filled typed first zero =
    outlet_is next typed.0 first
branch_outlets_are (More next (More other rest)) filled typed first (suc port) =
    branch_outlets_are (More other rest) tt typed.1 _ port
    ∙ ap (λ n. branch_outlets (first + n) (More other rest) port)
    (sym (ap length (nodes_are_codes next typed.0)))
