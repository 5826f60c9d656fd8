-- How often nodes after fission fire, one node more.
use Rattle.std.proofs.Common.{◌≡◌, ◌∙◌, sym, ap, ℕ, ◌+◌, ◌<◌, List, [], ◌∷◌, ◌++◌, map, length}
use Rattle.std.proofs.Common.{arith, get_or, Option, Some, slice_get}
use Rattle.std.specs.List.{range_with_len}
use Rattle.std.specs.Option.{option_map_or}
use Rattle.std.proofs.lemmas.List.FromFn.{map-range_with_len_more}
use Rattle.std.proofs.lemmas.Option.{slice_get-get_or}
use Rattle.strc_elab_graph.specs.Graphs.{NodeCode}
use Rattle.strc_elab_graph.specs.NodeView.{node_view}
use Rattle.strc_elab_graph.specs.declared.graph.Node.{Node}
use Rattle.strc_fiss.specs.declared.split.Origin.{Origin}
use Rattle.strc_cli_pictures.specs.Parts.{count_before, share_at}

module _ (share : NodeCode → (count : ℕ) → ℕ) (nodes : List Node) (origins : List Origin)
    (counts : List ℕ) where
  abbrev shares : (count : ℕ) → List ℕ
  shares count = map (share_at share nodes origins counts) (range_with_len 0 count)

  pub one_share_more : (number : ℕ) (node : Node) (own count : ℕ) (before after : List ℕ)
      → number < length nodes → node ≡ get_or nodes number node
      → count ≡ count_before origins counts number → own ≡ share (node_view node) count
      → before ≡ shares number → after ≡ before ++ own ∷ [] → after ≡ shares (number + 1)
  one_share_more number node own count before after less same of is were more =
      let there : slice_get nodes number ≡ Some node =
      slice_get-get_or nodes number node less ∙ ap (λ (n : Node). Some n) (sym same) in
      let found : share_at share nodes origins counts number ≡ own =
      ap (λ (n : Option Node). option_map_or
      (λ (n : Node). share (node_view n) (count_before origins counts number)) n 0) there
      ∙ sym (is ∙ ap (share (node_view node)) of) in
      more ∙ ap (λ (l : List ℕ). l ++ own ∷ []) were
      ∙ ap (λ (n : ℕ). shares number ++ n ∷ []) (sym found)
      ∙ sym (map-range_with_len_more (share_at share nodes origins counts) 0 number number
      (omega arith))
