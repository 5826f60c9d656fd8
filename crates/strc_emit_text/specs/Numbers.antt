-- The text of lists of numbers.
use Rattle.std.specs.Prelude.{ℕ, zero, suc, ◌%◌, ◌==◌, ℤ, pos, List, [], ◌++◌, codes, length}
use Rattle.std.specs.Prelude.{slice_index_or, if◌then◌else◌}
use Rattle.std.specs.Ordering.{int_eq}
use Rattle.std.specs.Fmt.{signed_decimal}
use Rattle.strc_emit_text.specs.Texts.{texts_below}

-- how many of the first so many numbers there are up to the last one that isn't 0
abbrev pub kept : List ℤ → (count : ℕ) → ℕ
kept numbers zero = 0
kept numbers (suc count) = if int_eq (slice_index_or numbers count (pos 0)) (pos 0)
    then kept numbers count else suc count

-- what is before a number: sixteen are in a line
abbrev pub separator : (at : ℕ) → List ℕ
separator at = if at == 0 then [] else if at % 16 == 0 then codes ",\n    " else codes ", "

abbrev pub number_text : List ℤ → (at : ℕ) → List ℕ
number_text numbers at = separator at ++ signed_decimal (slice_index_or numbers at (pos 0))

-- the first so many numbers between braces
abbrev pub first_text : List ℤ → (count : ℕ) → List ℕ
first_text numbers zero = []
first_text numbers (suc count) =
    codes " = {" ++ texts_below (number_text numbers) (suc count) ++ codes "}"

-- what an array begins with, but for zeros at its end
abbrev pub numbers_text : List ℤ → List ℕ
numbers_text numbers = first_text numbers (kept numbers (length numbers))
