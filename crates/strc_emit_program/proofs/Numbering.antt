-- The texts of nodes, one node after another.
use Rattle.std.proofs.Common.{◌≡◌, ◌∙◌, ◌<◌, ◌+◌, ℕ, suc, List, ◌++◌, Option, Some, length, ap, sym}
use Rattle.std.proofs.Common.{subst, refl, arith, slice_get, get_or, append_assoc, option_map, map}
use Rattle.std.proofs.Common.{Result, Ok, Err}
use Rattle.std.specs.Prelude.{IfSome, OnOk}
use Rattle.std.proofs.lemmas.Option.{slice_get-map, slice_get-get_or}
use Rattle.strc_elab_graph.specs.Graphs.{node_name}
use Rattle.strc_elab_graph.specs.NodeView.{node_view}
use Rattle.strc_elab_graph.specs.declared.graph.Node.{Node}
use Rattle.strc_emit_moves.specs.declared.places.Network.{Network}
use Rattle.strc_sched_orders.specs.Schedules.{ScheduleParts}
use Rattle.strc_emit_program.specs.Programs.{AreTexts, IsNodeText, IsNumbered, IsProgramText}
use Rattle.strc_emit_program.specs.Programs.{start_text, end_text}

-- one more text
pub one_text_more : (IsText : ℕ → List ℕ → Type 0) (number : ℕ) (begun before after : List ℕ)
    → (added : List ℕ) × AreTexts IsText number added × (before ≡ begun ++ added)
    → (last : List ℕ) × IsText number last × (after ≡ before ++ last)
    → (added : List ℕ) × AreTexts IsText (number + 1) added × (after ≡ begun ++ added)
one_text_more IsText number begun before after (added, are, so_far) (last, is, later) =
    let next : suc number ≡ number + 1 = omega arith in (
      added ++ last,
      subst (λ n. AreTexts IsText n (added ++ last)) next (added, last, are, is, refl),
      later ∙ ap (λ (l : List ℕ). l ++ last) so_far ∙ append_assoc begun added last,
    )

-- the node at a place
pub node_there : (nodes : List Node) (number : ℕ) (code : Node) → number < length nodes
    → code ≡ get_or nodes number code → slice_get nodes number ≡ Some code
node_there nodes number code there is =
    slice_get-get_or nodes number code there ∙ ap Some (sym is)

-- its name
pub name_there : (nodes : List Node) (number : ℕ) (code : Node) (name : List ℕ)
    → slice_get nodes number ≡ Some code
    → slice_get (map (λ node. node_name (node_view node)) nodes) number ≡ Some name
    → name ≡ node_name (node_view code)
name_there nodes number code name there named =
    let both : Some name ≡ Some (node_name (node_view code)) =
    sym named ∙ slice_get-map (λ node. node_name (node_view node)) nodes number
    ∙ ap (option_map (λ node. node_name (node_view node))) there in cc

-- its text is that of its number
pub numbered : (network : Network) (number : ℕ) (name : List ℕ) (code : Node) (text : List ℕ)
    → slice_get network.nodes.now number ≡ Some code → name ≡ node_name (node_view code)
    → IsNodeText network number name code text → IsNumbered network number text
numbered network number name code text there is node_text =
    subst (λ found. IfSome found
    (λ other. IsNodeText network number (node_name (node_view other)) other text)) (sym there)
    (subst (λ called. IsNodeText network number called code text) is node_text)

pub added_numbered : {E : Type 0} (result : Result (Unit {0}) E) (network : Network) (number : ℕ)
    (name : List ℕ) (code : Node) (before after : List ℕ)
    → slice_get network.nodes.now number ≡ Some code → name ≡ node_name (node_view code)
    → OnOk result ((added : List ℕ) × IsNodeText network number name code added
    × (after ≡ before ++ added))
    → OnOk result ((added : List ℕ) × IsNumbered network number added × (after ≡ before ++ added))
added_numbered (Ok done) network number name code before after there is (added, text, later) =
    (added, numbered network number name code added there is text, later)
added_numbered (Err error) network number name code before after there is written = tt

-- a program is what was written before the functions of nodes, these, and what was written after
pub program_is : (network : Network) (schedule : ScheduleParts) (nodes : List Node)
    (start written whole : List ℕ) → network.nodes.now ≡ nodes
    → start ≡ start_text network
    → (added : List ℕ) × AreTexts (IsNumbered network) (length nodes) added
    × (written ≡ start ++ added)
    → whole ≡ written ++ end_text network schedule → IsProgramText network schedule whole
program_is network schedule nodes start written whole same before (added, are, later) last = (
  added,
  subst (λ (of : List Node). AreTexts (IsNumbered network) (length of) added) (sym same) are,
  last ∙ ap (λ (l : List ℕ). l ++ end_text network schedule)
      (later ∙ ap (λ (l : List ℕ). l ++ added) before),
)
