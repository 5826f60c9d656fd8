-- The program's input: the numbers that its bytes write, as words between white space.
use Rattle.std.specs.Prelude.{ℕ, suc, ℤ, pos, neg_ℤ, Bool, true, false, ◌&&◌, not, nat_lt}
use Rattle.std.specs.Prelude.{nat_eq, List, [], ◌∷◌, Option, Some, None, Result, Ok, Err}
use Rattle.std.specs.Prelude.{if◌then◌else◌}
use Rattle.std.specs.List.{slice_split, list_all}
use Rattle.std.specs.Option.{option_map}
use Rattle.std.specs.Char.{is_ascii_whitespace, is_digit}
use Rattle.std.specs.Str.Parse.{digits_value}

-- the parts between white space that aren't empty; white space is the bytes 9, 10, 12, 13 and 32
abbrev pub is_word : List ℕ → Bool
is_word [] = false
is_word (first ∷ rest) = true

abbrev pub words_of : List (List ℕ) → List (List ℕ)
words_of [] = []
words_of (part ∷ parts) = if is_word part then part ∷ words_of parts else words_of parts

abbrev pub words : List ℕ → List (List ℕ)
words bytes = words_of (slice_split is_ascii_whitespace bytes)

-- the number that decimal digits write, one or more of them, where it is at most this
abbrev pub are_digits : List ℕ → Bool
are_digits bytes = is_word bytes && list_all (λ byte. is_digit byte 10) bytes

abbrev pub numeral : (most : ℕ) → List ℕ → Option ℕ
numeral most digits =
    if are_digits digits && not (nat_lt most (digits_value 10 digits))
    then Some (digits_value 10 digits) else None

-- the greatest number after a sign, in 32 bits
abbrev pub most : (negative : Bool) → ℕ
most true = 2147483648
most false = 2147483647

abbrev pub signed : (negative : Bool) → ℕ → ℤ
signed true value = neg_ℤ (pos value)
signed false value = pos value

-- the byte `-`
abbrev pub minus : ℕ
minus = 45

-- the number of 32 bits that a word writes, after `-` where it is negative
abbrev pub int_of : List ℕ → Option ℤ
int_of [] = None
int_of (first ∷ rest) =
    if nat_eq first minus then option_map (signed true) (numeral (most true) rest)
    else option_map (signed false) (numeral (most false) (first ∷ rest))

abbrev pub put_first : Option ℤ → (number : ℕ) → Result (List ℤ) ℕ → Result (List ℤ) ℕ
put_first None number rest = Err number
put_first (Some value) number (Ok rest) = Ok (value ∷ rest)
put_first (Some value) number (Err wrong) = Err wrong

-- the numbers of words, the first of which has this number; or which of them writes none
abbrev pub ints_from : (number : ℕ) → List (List ℕ) → Result (List ℤ) ℕ
ints_from number [] = Ok []
ints_from number (word ∷ rest) = put_first (int_of word) number (ints_from (suc number) rest)

-- the numbers of the input, or the number of its first word that writes none
abbrev pub ints : List ℕ → Result (List ℤ) ℕ
ints bytes = ints_from 0 (words bytes)

-- the numbers of words before the first that writes none
abbrev pub put_given : Option ℤ → List ℤ → List ℤ
put_given None rest = []
put_given (Some value) rest = value ∷ rest

abbrev pub given_of : List (List ℕ) → List ℤ
given_of [] = []
given_of (word ∷ rest) = put_given (int_of word) (given_of rest)

-- those of the input
abbrev pub given : List ℕ → List ℤ
given bytes = given_of (words bytes)

abbrev pub error_of : Result (List ℤ) ℕ → Option ℕ
error_of (Ok numbers) = None
error_of (Err number) = Some number

-- the number of its first word that writes none, where there is one
abbrev pub wrong_word : List ℕ → Option ℕ
wrong_word bytes = error_of (ints bytes)
