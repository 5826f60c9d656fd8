-- Tapes from lists of words, one list for each tape.
use Rattle.std.specs.Prelude.{ℕ, suc, List, [], ◌∷◌, if◌then◌else◌, slice_index_or}
use Rattle.strc_work_meaning.specs.declared.word.Word.{Word}
use Rattle.strc_elab_graph.specs.Graphs.{NodeCode, gives_words}
use Rattle.strc_sched_outcome.specs.Tapes.{TapeView, tape}
use Rattle.strc_stage_steps.specs.Steps.{Gathered}

-- The tapes of these nodes, of which the first has this number; its list of words has that one.
abbrev pub tapes_from : (node number : ℕ) → List NodeCode → List (List Word) → List TapeView
tapes_from node number [] words = []
tapes_from node number (code ∷ codes) words = if gives_words code
    then tape node (slice_index_or words number [])
    ∷ tapes_from (suc node) (suc number) codes words
    else tapes_from (suc node) number codes words

-- Those of all nodes.
abbrev pub tapes_by : List NodeCode → List (List Word) → List TapeView
tapes_by codes words = tapes_from 0 0 codes words

-- A node's tape with these words, where it gives some.
abbrev pub added : NodeCode → (node : ℕ) → List Word → List TapeView
added code node words = if gives_words code then tape node words ∷ [] else []

-- These words of so many rounds.
abbrev pub gathered_so : List (List Word) → (rounds : ℕ) → Gathered
gathered_so words rounds = record { words = words; rounds = rounds }
