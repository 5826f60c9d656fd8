-- The words of a program's outputs, as contracts speak of them.
use Rattle.std.specs.Prelude.{ℕ, List}
use Rattle.strc_work_meaning.specs.declared.word.Word.{Word}
use Rattle.strc_sched_outcome.specs.declared.outcome.Tape.{Tape}

-- the words of a node that gives some
pub record TapeView : Type 0 where
  pub node : ℕ
  pub words : List Word

abbrev pub tape : (node : ℕ) → List Word → TapeView
tape node words = record { node = node; words = words }

abbrev pub tape_view : Tape → TapeView
tape_view own = tape own.node own.words.items
