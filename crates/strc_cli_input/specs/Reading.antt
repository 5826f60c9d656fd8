-- The input as far as it has been read, byte by byte.
use Rattle.std.specs.Prelude.{◌≡◌, ℕ, ◌+◌, ◌*◌, ℤ, Bool, true, false, nat_eq, nat_lt, List, []}
use Rattle.std.specs.Prelude.{◌∷◌, ◌++◌, length, Option, Some, None, Result, Ok, Err}
use Rattle.std.specs.Prelude.{if◌then◌else◌, codes, neg_ℤ, pos}
use Rattle.std.specs.Char.{is_ascii_whitespace, is_digit, digit_value}
use Rattle.strc_cli_input.specs.Numbers.{most, signed, minus, ints, given}
use Rattle.strc_cli_input.specs.Numbers.{wrong_word}
use Rattle.strc_cli_input.specs.declared.numbers.Word.{Word}
use Rattle.strc_cli_input.specs.declared.numbers.Word.TheVariants as word

-- the numbers so far, and where the last word is; or which word writes none
pub data Reading : Type 0 where
  Reads : (numbers : List ℤ) (last : Word) → Reading
  Fails : (number : ℕ) → Reading

-- nothing has been read
abbrev pub unread : Reading
unread = Reads [] word.Between

-- a word's digits so far, as long as a number of 32 bits is written by them
abbrev pub fitting : (negative : Bool) → ℕ → Option Word
fitting negative value = if nat_lt (most negative) value then None else Some
    (word.Digits negative value)

-- one digit more
abbrev pub extended : (negative : Bool) → ℕ → (byte : ℕ) → Option Word
extended negative value byte = if is_digit byte 10
    then fitting negative (value * 10 + digit_value byte) else None

-- one byte more, which is no white space
abbrev pub with_byte : Word → (byte : ℕ) → Option Word
with_byte word.Between byte = if nat_eq byte minus then Some word.Sign else extended false 0 byte
with_byte word.Sign byte = extended true 0 byte
with_byte (word.Digits negative value) byte = extended negative value byte

abbrev pub goes_on : List ℤ → Option Word → Reading
goes_on numbers None = Fails (length numbers)
goes_on numbers (Some last) = Reads numbers last

-- the last word ends
abbrev pub word_ended : List ℤ → Word → Reading
word_ended numbers word.Between = Reads numbers word.Between
word_ended numbers word.Sign = Fails (length numbers)
word_ended numbers (word.Digits negative value) = if nat_lt (most negative) value
    then Fails (length numbers) else Reads (numbers ++ signed negative value ∷ []) word.Between

-- one byte more
abbrev pub byte_read : Reading → (byte : ℕ) → Reading
byte_read (Fails number) byte = Fails number
byte_read (Reads numbers last) byte = if is_ascii_whitespace byte then word_ended numbers last
    else goes_on numbers (with_byte last byte)

abbrev pub bytes_read : Reading → List ℕ → Reading
bytes_read reading [] = reading
bytes_read reading (byte ∷ rest) = bytes_read (byte_read reading byte) rest

-- the numbers, where the input ends here
abbrev pub reported : Reading → Result (List ℤ) ℕ
reported (Fails number) = Err number
reported (Reads numbers last) = Ok numbers

abbrev pub ended : Reading → Result (List ℤ) ℕ
ended (Fails number) = Err number
ended (Reads numbers last) = reported (word_ended numbers last)

-- reading byte by byte gives the numbers of the bytes
abbrev pub ReadsInts : Type 0
ReadsInts = (bytes : List ℕ) → ended (bytes_read unread bytes) ≡ ints bytes

-- what comes after a word that writes no number changes nothing
abbrev pub FailsForGood : Type 0
FailsForGood = (first rest : List ℕ) (number : ℕ) → bytes_read unread first ≡ Fails number
    → ints (first ++ rest) ≡ Err number

-- reading the bytes of one piece and then those of another reads the bytes of both
abbrev pub ReadsInPieces : Type 0
ReadsInPieces = (reading : Reading) (first rest : List ℕ)
    → bytes_read reading (first ++ rest) ≡ bytes_read (bytes_read reading first) rest

-- the numbers of all bytes begin with these
pub record Begins (numbers all : List ℤ) : Type 0 where
  pub later : List ℤ
  pub is : all ≡ numbers ++ later

-- the numbers that were read are the first of those that the input gives, whatever comes next
abbrev pub GivenBeginsSo : Type 0
GivenBeginsSo = (bytes more : List ℕ) (numbers : List ℤ) (last : Word)
    → bytes_read unread bytes ≡ Reads numbers last → Begins numbers (given (bytes ++ more))

-- an input without a wrong word gives all of its numbers, and each one as many as are before the
-- first wrong word
abbrev pub GivenIsSo : Type 0
GivenIsSo = (bytes : List ℕ)
    → ((numbers : List ℤ) → ints bytes ≡ Ok numbers → given bytes ≡ numbers)
    × ((number : ℕ) → ints bytes ≡ Err number → length (given bytes) ≡ number)

-- Of `5 -6 x 7` the first two words write numbers, and word 2 writes none.
pub record GivenRow : Type 0 where
  pub numbers : given (codes "5 -6 x 7") ≡ pos 5 ∷ neg_ℤ (pos 6) ∷ []
  pub wrong : wrong_word (codes "5 -6 x 7") ≡ Some 2
