-- What nodes after fission are called, one node more.
use Rattle.std.proofs.Common.{◌≡◌, ◌∙◌, sym, ap, ℕ, ◌+◌, ◌<◌, List, [], ◌∷◌, ◌++◌, map, length}
use Rattle.std.proofs.Common.{arith, get_or, Option, Some, Vec, Global, slice_get}
use Rattle.std.specs.List.{range_with_len}
use Rattle.std.specs.Option.{option_map_or}
use Rattle.std.proofs.lemmas.List.{map_push}
use Rattle.std.proofs.lemmas.List.FromFn.{map-range_with_len_more}
use Rattle.std.proofs.lemmas.Option.{slice_get-get_or}
use Rattle.strc_elab_graph.specs.NodeView.{node_view}
use Rattle.strc_elab_graph.specs.declared.graph.Node.{Node}
use Rattle.strc_fiss.specs.declared.split.Origin.{Origin}
use Rattle.strc_cli_pictures.specs.Parts.{label_after, label_at, label_before}

pub one_label_more : (nodes : List Node) (origins : List Origin) (labels : List (List ℕ))
    (number : ℕ) (node : Node) (label before_it : List ℕ) (copy : Vec ℕ Global)
    (before after : List (Vec ℕ Global))
    → number < length nodes → node ≡ get_or nodes number node
    → before_it ≡ label_before origins labels number
    → label ≡ label_after (node_view node) before_it → copy.items ≡ label
    → map (λ l. l.items) before ≡ map (label_at nodes origins labels) (range_with_len 0 number)
    → after ≡ before ++ copy ∷ []
    → map (λ l. l.items) after ≡ map (label_at nodes origins labels) (range_with_len 0 (number + 1))
one_label_more nodes origins labels number node label before_it copy before after less same of is
    copied were more =
    let there : slice_get nodes number ≡ Some node =
    slice_get-get_or nodes number node less ∙ ap (λ (n : Node). Some n) (sym same) in
    let found : label_at nodes origins labels number ≡ label =
    ap (λ (n : Option Node). option_map_or
    (λ (n : Node). label_after (node_view n) (label_before origins labels number)) n []) there
    ∙ sym (is ∙ ap (label_after (node_view node)) of) in
    let items : Vec ℕ Global → List ℕ = λ l. l.items in
    ap (map items) more ∙ map_push items before copy
    ∙ ap (λ (l : List (List ℕ)). l ++ copy.items ∷ []) were
    ∙ ap (λ (l : List ℕ). map (label_at nodes origins labels) (range_with_len 0 number) ++ l ∷ [])
    (copied ∙ sym found)
    ∙ sym (map-range_with_len_more (label_at nodes origins labels) 0 number number (omega arith))
