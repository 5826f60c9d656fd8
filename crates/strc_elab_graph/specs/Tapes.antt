-- The outputs of a program: each node that gives words has a tape of its own, and tapes are in
-- order of their nodes.
use Rattle.std.specs.Prelude.{◌≡◌, ℕ, suc, ◌<◌, List, [], ◌∷◌, Some, slice_get, if◌then◌else◌}
use Rattle.strc_elab_graph.specs.Graphs.{NodeCode, FileWriter, gives_words}

-- the nodes that give words, where the first of these nodes has this number
abbrev pub tape_nodes_from : (node : ℕ) → List NodeCode → List ℕ
tape_nodes_from node [] = []
tape_nodes_from node (code ∷ codes) = if gives_words code
    then node ∷ tape_nodes_from (suc node) codes else tape_nodes_from (suc node) codes

-- the nodes that give words: one for each tape
abbrev pub tape_nodes : List NodeCode → List ℕ
tape_nodes codes = tape_nodes_from 0 codes

-- a writer has the bytes of an earlier one between its quotes: two tapes for one file
pub record RepeatsTape (codes : List NodeCode) (node : ℕ) : Type 0 where
  pub text : List ℕ
  pub earlier : ℕ
  pub before : earlier < node
  pub first : slice_get codes earlier ≡ Some (FileWriter text)
  pub again : slice_get codes node ≡ Some (FileWriter text)

-- no writer does
abbrev pub AreTapesApart : List NodeCode → Type 0
AreTapesApart codes = (node : ℕ) → ¬ RepeatsTape codes node

-- the lowest one that does
pub record IsFirstRepeat (codes : List NodeCode) (node : ℕ) : Type 0 where
  pub repeats : RepeatsTape codes node
  pub lowest : (lower : ℕ) → lower < node → ¬ RepeatsTape codes lower
