-- Tapes of which those of some nodes go to files of their own.
use Rattle.std.specs.Prelude.{ℕ, ◌+◌, ◌==◌, Bool, List, [], ◌∷◌, map, if◌then◌else◌}
use Rattle.std.specs.List.{list_any}
use Rattle.strc_work_meaning.specs.declared.word.Word.{Word}
use Rattle.strc_sched_outcome.specs.declared.outcome.Tape.{Tape}

-- whether a node is one of these
abbrev pub is_given : (given : List ℕ) → (node : ℕ) → Bool
is_given given node = list_any (λ other. other == node) given

-- the tapes that stay, each with its number, where the first tape has this one
abbrev pub staying_from : (given : List ℕ) → (number : ℕ) → List Tape → List (ℕ × Tape)
staying_from given number [] = []
staying_from given number (tape ∷ tapes) =
    if is_given given tape.node then staying_from given (number + 1) tapes
    else (number, tape) ∷ staying_from given (number + 1) tapes

abbrev pub staying_tapes : (given : List ℕ) → List Tape → List Tape
staying_tapes given tapes = map (λ p. p.1) (staying_from given 0 tapes)

-- the words of the first tape of a node; none where it has no tape
abbrev pub words_of : List Tape → (node : ℕ) → List Word
words_of [] node = []
words_of (tape ∷ tapes) node = if tape.node == node then tape.words.items else words_of tapes node
