-- Nodes in preorder are those of the tree.
use Rattle.std.proofs.Common.{◌≡◌, ℕ, List, [], ◌∷◌, ◌++◌, Some, None, Option}
use Rattle.std.proofs.Common.{refl, sym, ap, ◌∙◌, append_assoc, append-nil}
use Rattle.std.specs.Option.{option_map}
use Rattle.strc_elab_dataflow.specs.Streams.{layout, pipeline_layout, branch_layout, node_layout}
use Rattle.strc_elab_dataflow.specs.Streams.{maybe_layout, chained_layout, beside_layout}
use Rattle.strc_elab_dataflow.specs.Streams.{fed_back_layout}
use Rattle.strc_elab_graph.specs.Graphs as graphs
use Rattle.strc_elab_graph.specs.Graphs.{NodeCode, SplitterCode}
use Rattle.strc_elab_stream.specs.Instances.{Stream, Streams, Filter, Identity, FileReader}
use Rattle.strc_elab_stream.specs.Instances.{FileWriter}
use Rattle.strc_elab_stream.specs.Instances.{Pipeline, SplitJoin, FeedbackLoop, Done, More}
use Rattle.strc_elab_stream.specs.Types.{IsWellTyped, AreWellTyped, AreEach, HasFirst}
use Rattle.strc_elab_stream.specs.Flattening.{trees_of, nodes_of, row_nodes, codes_of}
use Rattle.strc_elab_stream.specs.Flattening.{splitter_nodes, joiner_nodes}

pub splitter_codes : (splitter : Option SplitterCode)
    → splitter_nodes splitter ≡ (maybe_layout (option_map graphs.Splitter splitter)).codes
unfolding maybe_layout node_layout
splitter_codes None = refl
splitter_codes (Some splitter) = refl

joiner_codes : (joiner : Option (List ℕ))
    → joiner_nodes joiner ≡ (maybe_layout (option_map graphs.Joiner joiner)).codes
unfolding maybe_layout node_layout
joiner_codes None = refl
joiner_codes (Some weights) = refl

abbrev NodeList : Type 0
NodeList = List NodeCode

both : (a b c d : NodeList) → a ≡ b → c ≡ d → a ++ c ≡ b ++ d
both a b c d e f = ap (λ (l : NodeList). l ++ c) e ∙ ap (λ (l : NodeList). b ++ l) f

-- the nodes of a loop by their parts
in_loop : (joiner splitter : NodeCode) (body loop : NodeList)
    → (joiner ∷ body) ++ (splitter ∷ loop) ≡ ((joiner ∷ []) ++ (body ++ (splitter ∷ []))) ++ loop
in_loop joiner splitter body loop =
    ap {A = NodeList} {B = NodeList} (λ l. joiner ∷ l)
    (sym (append_assoc body (splitter ∷ []) loop))

mutual
  unfolding layout pipeline_layout branch_layout node_layout maybe_layout chained_layout
      beside_layout fed_back_layout

  pub nodes_are_codes : (stream : Stream) → IsWellTyped stream → nodes_of stream ≡ codes_of stream
  nodes_are_codes (Filter name filter) typed = refl
  nodes_are_codes Identity typed = refl
  nodes_are_codes (FileReader text) typed = refl
  nodes_are_codes (FileWriter text) typed = refl
  nodes_are_codes (Pipeline children) typed = row_is_codes children typed.0 typed.1
  nodes_are_codes (SplitJoin splitter children joiner) typed =
      append_assoc (splitter_nodes splitter) (row_nodes children) (joiner_nodes joiner)
      ∙ both (splitter_nodes splitter) _ _ _ (splitter_codes splitter)
      (both (row_nodes children) _ (joiner_nodes joiner) _
      (branches_are_codes children typed.0 typed.1) (joiner_codes joiner))
  nodes_are_codes (FeedbackLoop joiner body splitter loop enqueued) typed =
      both (graphs.Joiner joiner ∷ nodes_of body) (graphs.Joiner joiner ∷ codes_of body)
      (graphs.Splitter splitter ∷ nodes_of loop) (graphs.Splitter splitter ∷ codes_of loop)
      (ap {A = NodeList} {B = NodeList} (λ l. graphs.Joiner joiner ∷ l)
      (nodes_are_codes body typed.3))
      (ap {A = NodeList} {B = NodeList} (λ l. graphs.Splitter splitter ∷ l)
      (nodes_are_codes loop typed.5))
      ∙ in_loop (graphs.Joiner joiner) (graphs.Splitter splitter) (codes_of body) (codes_of loop)

  row_is_codes : (children : Streams) → HasFirst children → AreWellTyped children
      → row_nodes children ≡ (pipeline_layout (trees_of children)).codes
  row_is_codes Done filled typed = absurd filled
  row_is_codes (More next Done) filled typed =
      append-nil (nodes_of next) ∙ nodes_are_codes next typed.0
  row_is_codes (More next (More other rest)) filled typed =
      both (nodes_of next) _ _ _ (nodes_are_codes next typed.0)
      (row_is_codes (More other rest) tt typed.2)

  pub branches_are_codes : (children : Streams) → HasFirst children → AreEach children
      → row_nodes children ≡ (branch_layout (trees_of children)).codes
  branches_are_codes Done filled typed = absurd filled
  branches_are_codes (More next Done) filled typed =
      both (nodes_of next) _ [] [] (nodes_are_codes next typed.0) refl
  branches_are_codes (More next (More other rest)) filled typed =
      both (nodes_of next) _ _ _ (nodes_are_codes next typed.0)
      (branches_are_codes (More other rest) tt typed.1)
