-- The tapes of a graph's nodes.
use Rattle.std.specs.Prelude.{◌≡◌, ℕ, suc, List, [], ◌∷◌, Some, true, length, slice_get}
use Rattle.std.specs.Prelude.{slice_index, if◌then◌else◌}
use Rattle.strc_work_meaning.specs.declared.word.Word.{Word}
use Rattle.strc_elab_graph.specs.Graphs.{NodeCode, gives_words}
use Rattle.strc_sched_outcome.specs.Tapes.{TapeView, tape}
use Rattle.strc_sched_laws.specs.Machine.{words_at}

-- a tape of each node that gives words, where the first of these nodes has this number
abbrev pub tapes_from : (node : ℕ) → List NodeCode → (words : ℕ → List Word) → List TapeView
tapes_from node [] words = []
tapes_from node (code ∷ codes) words = if gives_words code
    then tape node (words node) ∷ tapes_from (suc node) codes words
    else tapes_from (suc node) codes words

abbrev pub tapes_of : List NodeCode → (words : ℕ → List Word) → List TapeView
tapes_of codes words = tapes_from 0 codes words

-- each tape's length is known
abbrev pub AreMarked : List NodeCode → (lengths : List ℕ) → List (List Word) → Type 0
AreMarked codes lengths words =
    (node : ℕ) (code : NodeCode) → slice_get codes node ≡ Some code → gives_words code ≡ true
    → slice_index lengths node ≡ length (words_at words node)
