-- Reading byte by byte gives the numbers of the whole input.
use Rattle.std.proofs.Common.{◌≡◌, ℕ, suc, ◌⊎◌, Bool, true, false, cond, List, [], ◌∷◌, ◌++◌}
use Rattle.std.proofs.Common.{length, Option, Some, None, Result, Ok, Err, refl, sym, ap, ◌∙◌, ℤ}
use Rattle.std.proofs.Common.{inl, inr}
use Rattle.std.specs.List.{slice_split, onto_first}
use Rattle.std.specs.Char.{is_ascii_whitespace}
use Rattle.std.proofs.lemmas.List.Splits.{slice_split-cons_yes, slice_split-cons_no}
use Rattle.strc_cli_input.specs.Numbers.{words_of, words, int_of, put_first, ints_from, ints}
use Rattle.strc_cli_input.specs.Reading.{goes_on, byte_read, bytes_read, reported}
use Rattle.strc_cli_input.specs.Reading.{ended, unread, ReadsInts, FailsForGood, with_byte}
use Rattle.strc_cli_input.specs.Reading.{word_ended}
use Rattle.strc_cli_input.specs.declared.numbers.Word.{Word}
use Rattle.strc_cli_input.specs.declared.numbers.Word.TheVariants as word
use Rattle.strc_cli_input.proofs.Bytes.{fails_stay, read_append}
use Rattle.strc_cli_input.proofs.NumberWords.{on_word, on_word_append, ends, added, word_ends}

-- numbers after others
abbrev with_before : List ℤ → Result (List ℤ) ℕ → Result (List ℤ) ℕ
with_before numbers (Ok more) = Ok (numbers ++ more)
with_before numbers (Err wrong) = Err wrong

before_none : (result : Result (List ℤ) ℕ) → with_before [] result ≡ result
before_none (Ok more) = refl
before_none (Err wrong) = refl

append_none : {A : Type 0} (l : List A) → l ++ [] ≡ l
append_none [] = refl
append_none (first ∷ rest) = ap (λ l. first ∷ l) (append_none rest)

pub append_more : {A : Type 0} (l : List A) (x : A) (more : List A)
    → (l ++ x ∷ []) ++ more ≡ l ++ x ∷ more
append_more [] x more = refl
append_more (first ∷ rest) x more = ap (λ l. first ∷ l) (append_more rest x more)

pub one_longer : {A : Type 0} (l : List A) (x : A) → length (l ++ x ∷ []) ≡ suc (length l)
one_longer [] x = refl
one_longer (first ∷ rest) x = ap suc (one_longer rest x)

pub either : (b : Bool) → (b ≡ true) ⊎ (b ≡ false)
either true = inl refl
either false = inr refl

-- no white space
abbrev pub IsDark : ℕ → Type 0
IsDark byte = is_ascii_whitespace byte ≡ false

abbrev pub AreDark : List ℕ → Type 0
AreDark [] = Unit {0}
AreDark (first ∷ rest) = IsDark first × AreDark rest

split_dark : (bytes : List ℕ) → AreDark bytes
    → slice_split is_ascii_whitespace bytes ≡ bytes ∷ []
split_dark [] dark = refl
split_dark (first ∷ rest) dark =
    slice_split-cons_no is_ascii_whitespace first rest dark.0
    ∙ ap (onto_first first) (split_dark rest dark.1)

pub split_at : (bytes : List ℕ) (byte : ℕ) (rest : List ℕ) → AreDark bytes
    → is_ascii_whitespace byte ≡ true → slice_split is_ascii_whitespace (bytes ++ byte ∷ rest)
    ≡ bytes ∷ slice_split is_ascii_whitespace rest
split_at [] byte rest dark space = slice_split-cons_yes is_ascii_whitespace byte rest space
split_at (first ∷ more) byte rest dark space =
    slice_split-cons_no is_ascii_whitespace first (more ++ byte ∷ rest) dark.0
    ∙ ap (onto_first first) (split_at more byte rest dark.1 space)

pub darker : (bytes : List ℕ) (byte : ℕ) → AreDark bytes → IsDark byte
    → AreDark (bytes ++ byte ∷ [])
darker [] byte dark is = (is, tt)
darker (first ∷ rest) byte dark is = (dark.0, darker rest byte dark.1 is)

-- the end of the input ends a word as white space does
reported_ends : (numbers : List ℤ) (last : Option Word)
    → ended (goes_on numbers last) ≡ reported (ends numbers last)
reported_ends numbers None = refl
reported_ends numbers (Some last) = refl

reported_added : (numbers : List ℤ) (value : Option ℤ)
    → reported (added numbers value)
    ≡ with_before numbers (put_first value (length numbers) (Ok []))
reported_added numbers None = refl
reported_added numbers (Some value) = refl

-- a byte of a word, and white space
pub byte_on : (numbers : List ℤ) (last : Option Word) (byte : ℕ) → IsDark byte
    → byte_read (goes_on numbers last) byte ≡ goes_on numbers (on_word last (byte ∷ []))
byte_on numbers None byte dark = refl
byte_on numbers (Some last) byte dark =
    ap (λ b. cond b (word_ended numbers last) (goes_on numbers (with_byte last byte))) dark

pub byte_ends : (numbers : List ℤ) (last : Option Word) (byte : ℕ) → is_ascii_whitespace byte ≡ true
    → byte_read (goes_on numbers last) byte ≡ ends numbers last
byte_ends numbers None byte space = refl
byte_ends numbers (Some last) byte space =
    ap (λ b. cond b (word_ended numbers last) (goes_on numbers (with_byte last byte))) space

put_before : (numbers : List ℤ) (value : ℤ) (number : ℕ) (rest : Result (List ℤ) ℕ)
    → with_before (numbers ++ value ∷ []) rest
    ≡ with_before numbers (put_first (Some value) number rest)
put_before numbers value number (Ok more) = ap Ok (append_more numbers value more)
put_before numbers value number (Err wrong) = refl

-- reading these bytes, after a word's bytes so far and numbers before it
abbrev ReadsOn : List ℕ → Type 0
ReadsOn rest = (numbers : List ℤ) (first : List ℕ) → AreDark first
    → ended (bytes_read (goes_on numbers (on_word (Some word.Between) first)) rest)
    ≡ with_before numbers (ints_from (length numbers) (words (first ++ rest)))

end_read : ReadsOn []
end_read numbers [] dark = ap Ok (sym (append_none numbers))
end_read numbers (byte ∷ more) dark =
    reported_ends numbers (on_word (Some word.Between) (byte ∷ more))
    ∙ ap reported (word_ends numbers byte more)
    ∙ reported_added numbers (int_of (byte ∷ more))
    ∙ ap (λ l. with_before numbers (ints_from (length numbers) (words_of l)))
    (sym (split_dark (byte ∷ more) dark))
    ∙ ap (λ l. with_before numbers (ints_from (length numbers) (words l)))
    (sym (append_none (byte ∷ more)))

added_read : (rest : List ℕ) → ReadsOn rest → (numbers : List ℤ) (value : Option ℤ)
    → ended (bytes_read (added numbers value) rest)
    ≡ with_before numbers
    (put_first value (length numbers) (ints_from (suc (length numbers)) (words rest)))
added_read rest later numbers None = ap ended (fails_stay (length numbers) rest)
added_read rest later numbers (Some value) =
    later (numbers ++ value ∷ []) [] tt
    ∙ ap (λ n. with_before (numbers ++ value ∷ []) (ints_from n (words rest)))
    (one_longer numbers value)
    ∙ put_before numbers value (length numbers) (ints_from (suc (length numbers)) (words rest))

space_read : (byte : ℕ) (rest : List ℕ) → is_ascii_whitespace byte ≡ true → ReadsOn rest
    → ReadsOn (byte ∷ rest)
space_read byte rest space later numbers [] dark =
    ap (λ r. ended (bytes_read r rest)) (byte_ends numbers (Some word.Between) byte space)
    ∙ later numbers [] tt
    ∙ ap (λ l. with_before numbers (ints_from (length numbers) (words_of l)))
    (sym (split_at [] byte rest tt space))
space_read byte rest space later numbers (first ∷ more) dark =
    ap (λ r. ended (bytes_read r rest))
    (byte_ends numbers (on_word (Some word.Between) (first ∷ more)) byte space
    ∙ word_ends numbers first more)
    ∙ added_read rest later numbers (int_of (first ∷ more))
    ∙ ap (λ l. with_before numbers (ints_from (length numbers) (words_of l)))
    (sym (split_at (first ∷ more) byte rest dark space))

byte_read_on : (byte : ℕ) (rest : List ℕ) → IsDark byte → ReadsOn rest → ReadsOn (byte ∷ rest)
byte_read_on byte rest is later numbers first dark =
    ap (λ r. ended (bytes_read r rest))
    (byte_on numbers (on_word (Some word.Between) first) byte is
    ∙ ap (goes_on numbers) (sym (on_word_append (Some word.Between) first byte [])))
    ∙ later numbers (first ++ byte ∷ []) (darker first byte dark is)
    ∙ ap (λ l. with_before numbers (ints_from (length numbers) (words l)))
    (append_more first byte rest)

read_on : (rest : List ℕ) → ReadsOn rest
read_on [] = end_read
read_on (byte ∷ rest) =
    elim (either (is_ascii_whitespace byte)) [
      | inl space ↦ space_read byte rest space (read_on rest)
      | inr is ↦ byte_read_on byte rest is (read_on rest)
    ]

pub reads_ints : ReadsInts
reads_ints bytes = read_on bytes [] [] tt ∙ before_none (ints bytes)

pub fails_for_good : FailsForGood
fails_for_good first rest number fails =
    sym (reads_ints (first ++ rest))
    ∙ ap ended (read_append unread first rest ∙ ap (λ r. bytes_read r rest) fails
    ∙ fails_stay number rest)
