-- The words of the nodes that give some, one after another.
use Rattle.std.proofs.Common.{◌≡◌, ap, ℕ, ◌+◌, ◌<◌, Bool, true, false, List, [], ◌∷◌, ◌++◌, length}
use Rattle.std.proofs.Common.{get_or, drop, map}
use Rattle.strc_work_meaning.specs.declared.word.Word.{Word}
use Rattle.strc_elab_graph.specs.Graphs.{gives_words}
use Rattle.strc_elab_graph.specs.NodeView.{node_view}
use Rattle.strc_elab_graph.specs.Tapes.{tape_nodes_from}
use Rattle.strc_elab_graph.specs.declared.graph.Node.{Node}
use Rattle.strc_elab_graph.proofs.TapeNodes as graphs
use Rattle.strc_elab_graph.proofs.TapeNodes.{nodes_later}
use Rattle.strc_stage_cut.proofs.Lists.{made_next, none_next}

-- a list for each node that gives words, from a place on
module _ (nodes : List Node) (node : ℕ) (own : Node) (less : node < length nodes)
    (is : own ≡ get_or nodes node own) (test : Bool) (e : test ≡ gives_words (node_view own))
    (words : ℕ → List Word) where
  pub words_here : test ≡ true → (before whole : List (List Word))
      → before ++ map words (tape_nodes_from node (drop node (map node_view nodes))) ≡ whole
      → (before ++ words node ∷ []) ++ map words (nodes_later nodes node own less is) ≡ whole
  words_here gives before whole =
      made_next before whole _ (map words (nodes_later nodes node own less is)) (words node)
      (ap (map words) (graphs.is_tape nodes node own less is test e gives))

  pub no_words_here : test ≡ false → (before whole : List (List Word))
      → before ++ map words (tape_nodes_from node (drop node (map node_view nodes))) ≡ whole
      → before ++ map words (nodes_later nodes node own less is) ≡ whole
  no_words_here none before whole =
      none_next before whole _ (map words (nodes_later nodes node own less is))
      (ap (map words) (graphs.no_tape nodes node own less is test e none))
