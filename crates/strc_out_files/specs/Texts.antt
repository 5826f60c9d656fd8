-- What is written of tapes of which some go to files of their own.
use Rattle.std.specs.Prelude.{ℕ, List, [], ◌∷◌, ◌++◌, map}
use Rattle.strc_sched_outcome.specs.declared.outcome.Tape.{Tape}
use Rattle.strc_sched_outcome.specs.declared.outcome.Outcome.{Outcome}
use Rattle.strc_sched_outcome.specs.declared.outcome.Outcome.TheVariants as outcome
use Rattle.strc_cli_output.specs.Output.{closed_text, fault_line, tape_text, words_text}
use Rattle.strc_cli_tapes.specs.Parted.{staying_from, words_of}
use Rattle.strc_cli_tapes.specs.declared.parted.NumberedTape.{NumberedTape}

-- tapes and their numbers, whoever holds them
abbrev pub pairs_of : List NumberedTape → List (ℕ × Tape)
pairs_of = map (λ it. (it.number, it.tape.now))

-- tapes with these numbers, each after its line
abbrev pub numbered_texts : (names : List (List ℕ)) → List (ℕ × Tape) → List ℕ
numbered_texts names [] = []
numbered_texts names (pair ∷ pairs) = tape_text names pair.0 pair.1 ++ numbered_texts names pairs

-- the tapes that stay: one alone is its words
abbrev pub staying_text : (names : List (List ℕ)) → List (ℕ × Tape) → List ℕ
staying_text names (pair ∷ []) = words_text pair.1.words.items
staying_text names pairs = numbered_texts names pairs

-- the text of those with its last line closed, before a line that follows
abbrev pub closed_staying : (names : List (List ℕ)) → List (ℕ × Tape) → List ℕ
closed_staying names (pair ∷ []) = closed_text pair.1.words.items
closed_staying names pairs = numbered_texts names pairs

-- all that a run of nodes with these names writes where the tapes of some go to files
abbrev pub parted_text : (names : List (List ℕ)) → (given : List ℕ) → Outcome → List ℕ
parted_text names given (outcome.Done tapes) =
    staying_text names (staying_from given 0 tapes.items)
parted_text names given (outcome.Fault node firing round cause tapes) =
    closed_staying names (staying_from given 0 tapes.items)
    ++ fault_line node firing round cause

abbrev pub tapes_of : Outcome → List Tape
tapes_of (outcome.Done tapes) = tapes.items
tapes_of (outcome.Fault node firing round cause tapes) = tapes.items

-- what is written to the files of the tapes of these nodes
abbrev pub file_texts : (given : List ℕ) → List Tape → List (List ℕ)
file_texts given tapes = map (λ node. words_text (words_of tapes node)) given
