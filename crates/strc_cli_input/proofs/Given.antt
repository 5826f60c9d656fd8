-- The numbers before the first word that writes none.
use Rattle.std.proofs.Common.{◌≡◌, ℕ, suc, true, List, [], ◌∷◌, ◌++◌, length, Option}
use Rattle.std.proofs.Common.{Some, None, Result, Ok, Err, refl, sym, ap, ◌∙◌, ℤ, inl, inr, arith}
use Rattle.std.proofs.Common.{◌+◌}
use Rattle.std.specs.Char.{is_ascii_whitespace}
use Rattle.strc_cli_input.specs.Numbers.{words_of, words, int_of, put_first, ints_from}
use Rattle.strc_cli_input.specs.Numbers.{put_given, given_of, given}
use Rattle.strc_cli_input.specs.Reading.{Reads, Fails, goes_on, bytes_read}
use Rattle.strc_cli_input.specs.Reading.{Begins, GivenBeginsSo, GivenIsSo}
use Rattle.strc_cli_input.specs.declared.numbers.Word.{Word}
use Rattle.strc_cli_input.specs.declared.numbers.Word.TheVariants as word
use Rattle.strc_cli_input.proofs.Bytes.{fails_stay}
use Rattle.strc_cli_input.proofs.Inputs.{AreDark, IsDark, append_more, byte_on, byte_ends, darker}
use Rattle.strc_cli_input.proofs.Inputs.{either, split_at}
use Rattle.strc_cli_input.proofs.NumberWords.{on_word, on_word_append, added, word_ends}

-- reading these bytes, after a word's bytes so far and numbers before it, leads to the first of
-- what all give
abbrev BeginsOn : List ℕ → Type 0
BeginsOn rest = (numbers : List ℤ) (first : List ℕ) (more : List ℕ) (to : List ℤ) (last : Word)
    → AreDark first
    → bytes_read (goes_on numbers (on_word (Some word.Between) first)) rest ≡ Reads to last
    → Begins to (numbers ++ given (first ++ (rest ++ more)))

reads_same : (numbers to : List ℤ) (now last : Word) → Reads numbers now ≡ Reads to last
    → numbers ≡ to
reads_same numbers to now last is = cc

end_begins : BeginsOn []
end_begins numbers first more to last dark is = ends_here (on_word (Some word.Between) first) is
  where
    ends_here : (now : Option Word) → goes_on numbers now ≡ Reads to last
        → Begins to (numbers ++ given (first ++ more))
    ends_here None is = absurd (cc)
    ends_here (Some now) is = record {
      later = given (first ++ more);
      is = ap (λ l. l ++ given (first ++ more)) (reads_same numbers to now last is);
    }

added_begins : (rest : List ℕ) → BeginsOn rest → (numbers : List ℤ) (value : Option ℤ)
    (more : List ℕ) (to : List ℤ) (last : Word)
    → bytes_read (added numbers value) rest ≡ Reads to last
    → Begins to (numbers ++ put_given value (given (rest ++ more)))
added_begins rest later numbers None more to last is =
    let stays = fails_stay (length numbers) rest in
    let wrong : Fails (length numbers) ≡ Reads to last = sym stays ∙ is in
    absurd (cc)
added_begins rest later numbers (Some value) more to last is =
    let so = later (numbers ++ value ∷ []) [] more to last tt is in record {
      later = so.later;
      is = sym (append_more numbers value (given (rest ++ more))) ∙ so.is;
    }

space_begins : (byte : ℕ) (rest : List ℕ) → is_ascii_whitespace byte ≡ true → BeginsOn rest
    → BeginsOn (byte ∷ rest)
space_begins byte rest space later numbers [] more to last dark is =
    let so = later numbers [] more to last tt
    (sym (ap (λ r. bytes_read r rest) (byte_ends numbers (Some word.Between) byte space)) ∙ is) in
    record {
      later = so.later;
      is = ap (λ l. numbers ++ given_of (words_of l)) (split_at [] byte (rest ++ more) tt space)
          ∙ so.is;
    }
space_begins byte rest space later numbers (first ∷ others) more to last dark is =
    let so = added_begins rest later numbers (int_of (first ∷ others)) more to last
    (sym (ap (λ r. bytes_read r rest)
    (byte_ends numbers (on_word (Some word.Between) (first ∷ others)) byte space
    ∙ word_ends numbers first others)) ∙ is) in record {
      later = so.later;
      is = ap (λ l. numbers ++ given_of (words_of l))
          (split_at (first ∷ others) byte (rest ++ more) dark space) ∙ so.is;
    }

dark_begins : (byte : ℕ) (rest : List ℕ) → IsDark byte → BeginsOn rest → BeginsOn (byte ∷ rest)
dark_begins byte rest dark_byte later numbers first more to last dark is =
    let so = later numbers (first ++ byte ∷ []) more to last (darker first byte dark dark_byte)
    (sym (ap (λ r. bytes_read r rest)
    (byte_on numbers (on_word (Some word.Between) first) byte dark_byte
    ∙ ap (goes_on numbers) (sym (on_word_append (Some word.Between) first byte [])))) ∙ is) in
    record {
      later = so.later;
      is = ap (λ l. numbers ++ given l) (sym (append_more first byte (rest ++ more))) ∙ so.is;
    }

begins_on : (rest : List ℕ) → BeginsOn rest
begins_on [] = end_begins
begins_on (byte ∷ rest) =
    elim (either (is_ascii_whitespace byte)) [
      | inl space ↦ space_begins byte rest space (begins_on rest)
      | inr is ↦ dark_begins byte rest is (begins_on rest)
    ]

pub given_begins_so : GivenBeginsSo
given_begins_so bytes more numbers last is = begins_on bytes [] [] more numbers last tt is

-- ---- all of them

all_given : (all : List (List ℕ)) (number : ℕ) (numbers : List ℤ)
    → ints_from number all ≡ Ok numbers → given_of all ≡ numbers
all_given [] number numbers is = cc
all_given (word ∷ rest) number numbers is =
    put (int_of word) (ints_from (suc number) rest) (all_given rest (suc number)) is
  where
    put : (value : Option ℤ) (others : Result (List ℤ) ℕ)
        → ((more : List ℤ) → others ≡ Ok more → given_of rest ≡ more)
        → put_first value number others ≡ Ok numbers
        → put_given value (given_of rest) ≡ numbers
    put None others later is = absurd (cc)
    put (Some value) (Ok more) later is =
        ap (λ l. value ∷ l) (later more refl) ∙ cc
    put (Some value) (Err wrong) later is = absurd (cc)

some_given : (all : List (List ℕ)) (number wrong : ℕ) → ints_from number all ≡ Err wrong
    → length (given_of all) + number ≡ wrong
some_given [] number wrong is = absurd (cc)
some_given (word ∷ rest) number wrong is =
    put (int_of word) (ints_from (suc number) rest) (some_given rest (suc number)) is
  where
    put : (value : Option ℤ) (others : Result (List ℤ) ℕ)
        → ((other : ℕ) → others ≡ Err other → length (given_of rest) + suc number ≡ other)
        → put_first value number others ≡ Err wrong
        → length (put_given value (given_of rest)) + number ≡ wrong
    put None others later is =
        let same : number ≡ wrong = cc in
        omega arith
    put (Some value) (Ok more) later is = absurd (cc)
    put (Some value) (Err other) later is =
        let so = later other refl in
        let same : other ≡ wrong = cc in
        omega arith

pub given_is_so : GivenIsSo
given_is_so bytes = (
  all_given (words bytes) 0,
  λ number is. let so = some_given (words bytes) 0 number is in omega arith,
)
