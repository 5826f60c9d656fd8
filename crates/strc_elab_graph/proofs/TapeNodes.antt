-- The nodes that give words, one after another.
use Rattle.std.proofs.Common.{◌≡◌, sym, ap, ◌∙◌, ℕ, ◌+◌, ◌<◌, Bool, true, false, List, []}
use Rattle.std.proofs.Common.{◌∷◌, ◌++◌, length, get_or, drop, map, arith, add-one, append_assoc}
use Rattle.std.specs.Prelude.{if◌then◌else◌}
use Rattle.std.proofs.lemmas.List.{drop_more, get_or-map, length-map}
use Rattle.strc_elab_graph.specs.Graphs.{gives_words}
use Rattle.strc_elab_graph.specs.NodeView.{node_view}
use Rattle.strc_elab_graph.specs.Tapes.{tape_nodes_from}
use Rattle.strc_elab_graph.specs.declared.graph.Node.{Node}

-- the nodes from a place on
module _ (nodes : List Node) (node : ℕ) (own : Node) (less : node < length nodes)
    (is : own ≡ get_or nodes node own) where
  pub from_here : drop node (map node_view nodes)
      ≡ node_view own ∷ drop (node + 1) (map node_view nodes)
  from_here =
      drop_more (map node_view nodes) node (node_view own)
      (let many = length-map nodes node_view in omega (arith, less, many))
      ∙ ap (λ c. c ∷ drop (node + 1) (map node_view nodes))
      (get_or-map node_view nodes node own (node_view own) less ∙ ap node_view (sym is))

  abbrev pub nodes_later : List ℕ
  nodes_later = tape_nodes_from (node + 1) (drop (node + 1) (map node_view nodes))

  nodes_from : tape_nodes_from node (drop node (map node_view nodes))
      ≡ (if gives_words (node_view own) then node ∷ nodes_later else nodes_later)
  nodes_from =
      ap (tape_nodes_from node) from_here
      ∙ ap (λ n. if gives_words (node_view own)
      then node ∷ tape_nodes_from n (drop (node + 1) (map node_view nodes))
      else tape_nodes_from n (drop (node + 1) (map node_view nodes))) (sym (add-one node))

  module _ (test : Bool) (e : test ≡ gives_words (node_view own)) where
    pub is_tape : test ≡ true
        → tape_nodes_from node (drop node (map node_view nodes)) ≡ node ∷ nodes_later
    is_tape gives = nodes_from
        ∙ ap (λ t. if t then node ∷ nodes_later else nodes_later) (sym e ∙ gives)

    pub no_tape : test ≡ false
        → tape_nodes_from node (drop node (map node_view nodes)) ≡ nodes_later
    no_tape none = nodes_from
        ∙ ap (λ t. if t then node ∷ nodes_later else nodes_later) (sym e ∙ none)

    pub node_here : test ≡ true → (before whole : List ℕ)
        → before ++ tape_nodes_from node (drop node (map node_view nodes)) ≡ whole
        → (before ++ node ∷ []) ++ nodes_later ≡ whole
    node_here gives before whole all =
        append_assoc before (node ∷ []) nodes_later
        ∙ ap (λ l. before ++ l) (sym (is_tape gives)) ∙ all

    pub no_node_here : test ≡ false → (before whole : List ℕ)
        → before ++ tape_nodes_from node (drop node (map node_view nodes)) ≡ whole
        → before ++ nodes_later ≡ whole
    no_node_here none before whole all = ap (λ l. before ++ l) (sym (no_tape none)) ∙ all
