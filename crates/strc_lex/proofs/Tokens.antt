-- What the scanner finds at the front of a text is the token there, and the only one.
use Rattle.std.proofs.Common.{◌≡◌, ◌≢◌, ℕ, ◌<◌, ◌≤◌, Bool, true, false, cond, List, [], ◌∷◌, length}
use Rattle.std.proofs.Common.{take, drop, refl, ap, arith, ◌∙◌, sym, subst, Option, Some, None, ◌⊎◌}
use Rattle.std.proofs.Common.{inl, inr, nat_eq, nat_le, ◌&&◌}
use Rattle.std.specs.List.{list_all, prefix_len, take_while, starts_with}
use Rattle.std.specs.Int.{w32, cast_signed}
use Rattle.std.proofs.lemmas.List.Folds.{length-prefix_len}
use Rattle.std.proofs.lemmas.List.Sums.{prefix_len-le-length}
use Rattle.std.proofs.lemmas.Bool.{both_ways, eqb-true, eq-eqb, leb-true}
use Rattle.std.proofs.lemmas.List.{length-take, length-take-le}
use Rattle.std.proofs.lemmas.Option.{cond_some}
use Rattle.std.specs.Cmp.Lexicographic.{pointwise}
use Rattle.strc_lex.specs.Characters.{is_digit, is_letter, is_name_byte, is_quote}
use Rattle.strc_lex.specs.KeywordTexts.{keyword_text, all_keywords}
use Rattle.strc_lex.specs.PunctuationTexts.{punctuation_text, paired_punctuation}
use Rattle.strc_lex.specs.PunctuationTexts.{single_punctuation}
use Rattle.strc_lex.specs.Text.{IsNameText, IsNumeral, IsLexeme, IsApart, IsToken, number_from}
use Rattle.strc_lex.specs.Scanning.{keyword_of, keyword_or_name, name_at, number_at}
use Rattle.strc_lex.specs.Scanning.{number_with_length, bounded, is_plain, ends_number}
use Rattle.strc_lex.specs.Scanning.{punctuation_at, punctuation_of, or_single, pair_of, single_of}
use Rattle.strc_lex.specs.Scanning.{opens_comment, punctuation_with_length, string_at, token_at}
use Rattle.strc_lex.specs.declared.token.TokenKind.{TokenKind}
use Rattle.strc_lex.specs.declared.token.TokenKind.TheVariants.{Name, Number, Keyword, Punctuation}
use Rattle.strc_lex.specs.declared.token.TokenKind.TheVariants.{StringLiteral}
use Rattle.strc_lex.specs.declared.token.Keyword as keywords
use Rattle.strc_lex.specs.declared.token.Keyword.TheVariants as keyword
use Rattle.strc_lex.specs.declared.token.Punctuation as punctuation
use Rattle.strc_lex.specs.declared.token.Punctuation.TheVariants as symbol
use Rattle.strc_lex.proofs.Finding.{either, both_parts, find_passes, find_all, find_none, pick_true}
use Rattle.strc_lex.proofs.Finding.{pick_false, none_is_not_some, some_same, same-pointwise}
use Rattle.strc_lex.proofs.Finding.{pointwise-same}
use Rattle.strc_lex.proofs.Runs.{run_head, run_positive, take-run, list_all-take_while}
use Rattle.strc_lex.proofs.Lexemes.{Meets, lexeme_begins, run_bound, keyword_runs, name_runs}
use Rattle.strc_lex.proofs.Lexemes.{letter_is_name_byte, letter_no_digit, quote_no_letter}
use Rattle.strc_lex.proofs.Lexemes.{quote_no_digit}
use Rattle.strc_lex.proofs.Strings.{string_meets}

-- a keyword's text finds the keyword
pub keyword_again : (w : keywords.Keyword) → keyword_of (keyword_text w) ≡ Some w
keyword_again keyword.Filter = refl
keyword_again w = refl

-- where no keyword is found, the bytes are none
no_keyword : (bytes : List ℕ) → keyword_of bytes ≡ None → (w : keywords.Keyword)
    → keyword_text w ≢ bytes
no_keyword bytes none w e =
    let fails : pointwise nat_eq (keyword_text w) bytes ≡ false =
    find_none (λ v. pointwise nat_eq (keyword_text v) (keyword_text w))
    (λ v. pointwise nat_eq (keyword_text v) bytes) all_keywords w (keyword_again w) none in
    both_ways (pointwise nat_eq (keyword_text w) bytes) fails
    (pointwise-same (keyword_text w) bytes e)

-- at a letter nothing is longer than the run of name bytes
name_longest : (b : ℕ) (rest : List ℕ) → is_letter b ≡ true → (other : TokenKind) (size : ℕ)
    → size ≤ length (b ∷ rest) → IsLexeme other (take size (b ∷ rest))
    → size ≤ prefix_len is_name_byte (b ∷ rest)
name_longest b rest letter (Name name) size within h =
    run_bound is_name_byte (b ∷ rest) size within (name_runs (take size (b ∷ rest)) h.1)
name_longest b rest letter (Keyword w) size within h =
    run_bound is_name_byte (b ∷ rest) size within
    (subst (λ bytes. list_all is_name_byte bytes ≡ true) h (keyword_runs w))
name_longest b rest letter (Number value) size within h =
    absurd (letter_no_digit b letter (lexeme_begins (Number value) b rest size h).1)
name_longest b rest letter (Punctuation m) size within h =
    absurd (both_ways (is_letter b) (lexeme_begins (Punctuation m) b rest size h).1.0 letter)
name_longest b rest letter (StringLiteral inner) size within h =
    absurd (both_ways (is_letter b) (quote_no_letter b
    (lexeme_begins (StringLiteral inner) b rest size h).1) letter)

-- a run that begins with a letter is a name, and isn't empty
name_text : (b : ℕ) (rest : List ℕ) → is_letter b ≡ true
    → IsNameText (take_while is_name_byte (b ∷ rest))
name_text b rest letter = subst IsNameText
    (sym (run_head is_name_byte b rest (letter_is_name_byte b letter)))
    (letter, list_all-take_while is_name_byte rest)

-- at a letter, whichever keyword the run is
name_meets_by : (b : ℕ) (rest : List ℕ) → is_letter b ≡ true → (found : Option keywords.Keyword)
    → keyword_of (take_while is_name_byte (b ∷ rest)) ≡ found
    → IsToken (b ∷ rest) (keyword_or_name (take_while is_name_byte (b ∷ rest)) found)
    (length (take_while is_name_byte (b ∷ rest)))
name_meets_by b rest letter None none =
    let run = take-run is_name_byte (b ∷ rest) _ refl in
    record {
      within = rw (length-prefix_len is_name_byte (b ∷ rest))
          (prefix_len-le-length is_name_byte (b ∷ rest));
      lexeme = (
        sym run,
        subst IsNameText (sym run) (name_text b rest letter),
        λ w e. no_keyword _ none w (e ∙ run),
      );
      apart = tt;
      longest = λ other size within h. rw (length-prefix_len is_name_byte (b ∷ rest))
          (name_longest b rest letter other size within h);
    }
name_meets_by b rest letter (Some w) found =
    let run = take-run is_name_byte (b ∷ rest) _ refl in
    record {
      within = rw (length-prefix_len is_name_byte (b ∷ rest))
          (prefix_len-le-length is_name_byte (b ∷ rest));
      lexeme = same-pointwise (keyword_text w) _
          (find_passes (λ v. pointwise nat_eq (keyword_text v) (take_while is_name_byte (b ∷ rest)))
          all_keywords w found) ∙ sym run;
      apart = tt;
      longest = λ other size within h. rw (length-prefix_len is_name_byte (b ∷ rest))
          (name_longest b rest letter other size within h);
    }

name_meets : (b : ℕ) (rest : List ℕ) → is_letter b ≡ true → Meets (b ∷ rest) (name_at (b ∷ rest))
name_meets b rest letter = (
  name_meets_by b rest letter (keyword_of (take_while is_name_byte (b ∷ rest))) refl,
  run_positive is_name_byte b rest (letter_is_name_byte b letter),
)

-- numbers

empty_of_length : (bytes : List ℕ) → nat_eq (length bytes) 0 ≡ true → bytes ≡ []
empty_of_length [] e = refl
empty_of_length (b ∷ bytes) e = let bad : length (b ∷ bytes) ≡ 0 =
    eqb-true (length (b ∷ bytes)) 0 e in absurd (omega arith)

length_of_empty : (bytes : List ℕ) → bytes ≡ [] → nat_eq (length bytes) 0 ≡ true
length_of_empty bytes e = subst (λ xs. nat_eq (length xs) 0 ≡ true) (sym e) refl

plain_zero : (b : ℕ) (bytes : List ℕ) → is_plain (b ∷ bytes) ≡ true → b ≡ 48 → bytes ≡ []
plain_zero b bytes plain zero_first = let test : nat_eq b 48 ≡ true = eq-eqb b 48 zero_first in
    empty_of_length bytes (rw test at plain)

pub zero_plain : (b : ℕ) (bytes : List ℕ) → (b ≡ 48 → bytes ≡ []) → is_plain (b ∷ bytes) ≡ true
zero_plain b bytes h = elim (either (nat_eq b 48)) [
  | inl zero_first ↦ rw zero_first (length_of_empty bytes (h (eqb-true b 48 zero_first)))
  | inr other ↦ rw other refl
]

negated : (b : Bool) → cond b false true ≡ true → b ≡ false
negated true e = absurd (cc)
negated false e = refl

ends_apart : (value : _) (rest : List ℕ) → ends_number rest ≡ true → IsApart (Number value) rest
ends_apart value [] ends = tt
ends_apart value (c ∷ rest) ends = negated (is_name_byte c) ends

pub apart_ends : (value : _) (rest : List ℕ) → IsApart (Number value) rest → ends_number rest ≡ true
apart_ends value [] apart = refl
apart_ends value (c ∷ rest) apart = rw apart refl

digit_runs : (bytes : List ℕ) → IsNumeral bytes → list_all is_digit bytes ≡ true
digit_runs [] h = absurd h
digit_runs (b ∷ bytes) h = rw h.0 h.1

pub number_longest : (b : ℕ) (rest : List ℕ) → is_digit b ≡ true → (other : TokenKind) (size : ℕ)
    → size ≤ length (b ∷ rest) → IsLexeme other (take size (b ∷ rest))
    → size ≤ prefix_len is_digit (b ∷ rest)
number_longest b rest digit (Name name) size within h =
    absurd (letter_no_digit b (lexeme_begins (Name name) b rest size h).1 digit)
number_longest b rest digit (Keyword w) size within h =
    absurd (letter_no_digit b (lexeme_begins (Keyword w) b rest size h).1 digit)
number_longest b rest digit (Number value) size within h =
    run_bound is_digit (b ∷ rest) size within (digit_runs (take size (b ∷ rest)) h.0)
number_longest b rest digit (Punctuation m) size within h =
    absurd (both_ways (is_digit b) (lexeme_begins (Punctuation m) b rest size h).1.1 digit)
number_longest b rest digit (StringLiteral inner) size within h =
    absurd (both_ways (is_digit b) (quote_no_digit b
    (lexeme_begins (StringLiteral inner) b rest size h).1) digit)

numeral_text : (b : ℕ) (rest : List ℕ) → is_digit b ≡ true
    → is_plain (take_while is_digit (b ∷ rest)) ≡ true → IsNumeral (take_while is_digit (b ∷ rest))
numeral_text b rest digit plain =
    let head = run_head is_digit b rest digit in
    let plain' : is_plain (b ∷ take_while is_digit rest) ≡ true =
    subst (λ xs. is_plain xs ≡ true) head plain in
    subst IsNumeral (sym head) (
      digit,
      list_all-take_while is_digit rest,
      plain_zero b (take_while is_digit rest) plain',
    )

number_meets_by : (b : ℕ) (rest : List ℕ) (k : TokenKind) (n : ℕ) → is_digit b ≡ true
    → is_plain (take_while is_digit (b ∷ rest)) ≡ true
    → ends_number (drop (length (take_while is_digit (b ∷ rest))) (b ∷ rest)) ≡ true →
    (o : Option ℕ) → bounded (number_from 0 (take_while is_digit (b ∷ rest))) ≡ o
    → number_with_length (length (take_while is_digit (b ∷ rest))) o ≡ Some (k, n)
    → Meets (b ∷ rest) (k, n)
number_meets_by b rest k n digit plain ends None low e = absurd (cc)
number_meets_by b rest k n digit plain ends (Some v) low e =
    let run = take-run is_digit (b ∷ rest) _ refl in
    let fits = cond_some (nat_le (number_from 0 (take_while is_digit (b ∷ rest))) 2147483648)
    (number_from 0 (take_while is_digit (b ∷ rest))) v low in
    let pair : (Number (cast_signed w32 v), length (take_while is_digit (b ∷ rest))) ≡ (k, n) =
    cc in
    subst (Meets (b ∷ rest)) pair (
      record {
        within = rw (length-prefix_len is_digit (b ∷ rest))
            (prefix_len-le-length is_digit (b ∷ rest));
        lexeme = subst (λ bytes. IsLexeme (Number (cast_signed w32 v)) bytes) (sym run) (
          numeral_text b rest digit plain,
          leb-true _ _ fits.0,
          ap (cast_signed w32) (sym fits.1),
        );
        apart = ends_apart (cast_signed w32 v) _ ends;
        longest = λ other size within h. rw (length-prefix_len is_digit (b ∷ rest))
            (number_longest b rest digit other size within h);
      },
      run_positive is_digit b rest digit,
    )

number_meets : (b : ℕ) (rest : List ℕ) (k : TokenKind) (n : ℕ) → is_digit b ≡ true
    → number_at (b ∷ rest) ≡ Some (k, n) → Meets (b ∷ rest) (k, n)
number_meets b rest k n digit e =
    let digits = take_while is_digit (b ∷ rest) in
    elim (either (is_plain (take_while is_digit (b ∷ rest))
    && ends_number (drop (length (take_while is_digit (b ∷ rest))) (b ∷ rest)))) [
      | inl good ↦
          let parts = both_parts (is_plain (take_while is_digit (b ∷ rest)))
          (ends_number (drop (length (take_while is_digit (b ∷ rest))) (b ∷ rest))) good in
          number_meets_by b rest k n digit parts.0 parts.1
          (bounded (number_from 0 (take_while is_digit (b ∷ rest)))) refl (rw good at e)
      | inr bad ↦ absurd (none_is_not_some (k, n) (rw bad at e))
    ]

-- punctuation

-- what a punctuation mark's text finds
pub punctuation_again : (m : punctuation.Punctuation)
    → ((pair_of (punctuation_text m) ≡ Some m) × (length (punctuation_text m) ≡ 2))
    ⊎ ((single_of (punctuation_text m) ≡ Some m) × (length (punctuation_text m) ≡ 1))
punctuation_again symbol.Arrow = inl (refl, refl)
punctuation_again symbol.PlusPlus = inl (refl, refl)
punctuation_again symbol.MinusMinus = inl (refl, refl)
punctuation_again symbol.PlusAssign = inl (refl, refl)
punctuation_again symbol.MinusAssign = inl (refl, refl)
punctuation_again symbol.StarAssign = inl (refl, refl)
punctuation_again symbol.SlashAssign = inl (refl, refl)
punctuation_again symbol.PercentAssign = inl (refl, refl)
punctuation_again symbol.ShiftLeft = inl (refl, refl)
punctuation_again symbol.ShiftRight = inl (refl, refl)
punctuation_again symbol.LessEqual = inl (refl, refl)
punctuation_again symbol.GreaterEqual = inl (refl, refl)
punctuation_again symbol.Equal = inl (refl, refl)
punctuation_again symbol.NotEqual = inl (refl, refl)
punctuation_again symbol.AndAnd = inl (refl, refl)
punctuation_again symbol.OrOr = inl (refl, refl)
punctuation_again m = inr (refl, refl)

punctuation_short : (m : punctuation.Punctuation)
    → (0 < length (punctuation_text m)) × (length (punctuation_text m) ≤ 2)
punctuation_short m = elim (punctuation_again m)
    [ inl two ↦ (omega arith, omega arith) | inr one ↦ (omega arith, omega arith) ]

-- the text of a punctuation mark is at the front
punctuation_at_front : (text : List ℕ) (m : punctuation.Punctuation) → punctuation_of text ≡ Some m
    → punctuation_text m ≡ take (length (punctuation_text m)) text
punctuation_at_front text m e = same-pointwise (punctuation_text m)
    (take (length (punctuation_text m)) text) (by (pair_of text) refl e) where
      by : (o : Option punctuation.Punctuation) → pair_of text ≡ o → or_single text o ≡ Some m
          → starts_with nat_eq text (punctuation_text m) ≡ true
      by None none single = find_passes (λ v. starts_with nat_eq text (punctuation_text v))
          single_punctuation m single
      by (Some v) pair same = let one : v ≡ m = cc in
          find_passes (λ v. starts_with nat_eq text (punctuation_text v)) paired_punctuation m
          (pair ∙ same)

-- a punctuation mark of this size is there
pub size_of_punctuation : (text : List ℕ) (m : punctuation.Punctuation) (size : ℕ)
    → size ≤ length text → punctuation_text m ≡ take size text → length (punctuation_text m) ≡ size
size_of_punctuation text m size within e = ap length e ∙ length-take-le size text within

begins_true : (text : List ℕ) (m : punctuation.Punctuation) (size : ℕ) → size ≤ length text
    → punctuation_text m ≡ take size text → starts_with nat_eq text (punctuation_text m) ≡ true
begins_true text m size within e = pointwise-same (punctuation_text m)
    (take (length (punctuation_text m)) text)
    (e ∙ ap (λ k. take k text) (sym (size_of_punctuation text m size within e)))

-- a punctuation mark at the front is found, or a longer one
pub punctuation_not_missed : (text : List ℕ) (m : punctuation.Punctuation) (size : ℕ)
    → size ≤ length text → punctuation_text m ≡ take size text → punctuation_of text ≡ None → ⊥
punctuation_not_missed text m size within e none = by (pair_of text) refl none where
  by : (o : Option punctuation.Punctuation) → pair_of text ≡ o → or_single text o ≡ None → ⊥
  by (Some v) pair bad = absurd (cc)
  by None pair single = elim (punctuation_again m) [
    | inl two ↦ both_ways (starts_with nat_eq text (punctuation_text m))
        (find_none (λ v. starts_with nat_eq (punctuation_text m) (punctuation_text v))
        (λ v. starts_with nat_eq text (punctuation_text v)) paired_punctuation m two.0 pair)
        (begins_true text m size within e)
    | inr one ↦ both_ways (starts_with nat_eq text (punctuation_text m))
        (find_none (λ v. starts_with nat_eq (punctuation_text m) (punctuation_text v))
        (λ v. starts_with nat_eq text (punctuation_text v)) single_punctuation m one.0 single)
        (begins_true text m size within e)
  ]

-- no punctuation mark at the front is longer than the one that is found
punctuation_longest : (text : List ℕ) (m : punctuation.Punctuation) → punctuation_of text ≡ Some m
    → (other : punctuation.Punctuation) (size : ℕ) → size ≤ length text
    → punctuation_text other ≡ take size text → size ≤ length (punctuation_text m)
punctuation_longest text m found other size within e = by (pair_of text) refl found where
  by : (o : Option punctuation.Punctuation) → pair_of text ≡ o → or_single text o ≡ Some m
      → size ≤ length (punctuation_text m)
  by (Some v) pair same =
      let one : v ≡ m = cc in
      let two : nat_eq (length (punctuation_text m)) 2 ≡ true =
      find_all (λ v. starts_with nat_eq text (punctuation_text v))
      (λ v. nat_eq (length (punctuation_text v)) 2) paired_punctuation m refl (pair ∙ same) in
      let long = eqb-true (length (punctuation_text m)) 2 two in
      let short = punctuation_short other in
      let fits = size_of_punctuation text other size within e in
      omega arith
  by None pair single = elim (punctuation_again other) [
    | inl two ↦ absurd (both_ways (starts_with nat_eq text (punctuation_text other))
        (find_none (λ v. starts_with nat_eq (punctuation_text other) (punctuation_text v))
        (λ v. starts_with nat_eq text (punctuation_text v)) paired_punctuation other two.0 pair)
        (begins_true text other size within e))
    | inr one ↦ let short = punctuation_short m in let fits =
        size_of_punctuation text other size within
        e in omega arith
  ]

-- after a `/` that opens no comment is no `/` and no `*`
slash_apart : (b : ℕ) (rest : List ℕ) → b ≡ 47 → opens_comment (b ∷ rest) ≡ false
    → IsApart (Punctuation symbol.Slash) rest
slash_apart b [] e plain = tt
slash_apart b (c ∷ rest) e plain = (
  λ slash. let bad : opens_comment (47 ∷ 47 ∷ rest) ≡ false =
      subst (λ x. opens_comment (47 ∷ x ∷ rest) ≡ false) slash
      (subst (λ x. opens_comment (x ∷ c ∷ rest) ≡ false) e plain) in absurd (cc),
  λ star. let bad : opens_comment (47 ∷ 42 ∷ rest) ≡ false =
      subst (λ x. opens_comment (47 ∷ x ∷ rest) ≡ false) star
      (subst (λ x. opens_comment (x ∷ c ∷ rest) ≡ false) e plain) in absurd (cc),
)

punctuation_apart : (m : punctuation.Punctuation) (b : ℕ) (rest : List ℕ)
    → punctuation_text m ≡ take (length (punctuation_text m)) (b ∷ rest)
    → opens_comment (b ∷ rest) ≡ false → IsApart (Punctuation m)
    (drop (length (punctuation_text m)) (b ∷ rest))
punctuation_apart symbol.Slash b rest e plain = let head : 47 ≡ b = cc in
    slash_apart b rest (sym head) plain
punctuation_apart m b rest e plain = tt

lexeme_longest : (b : ℕ) (rest : List ℕ) (m : punctuation.Punctuation) → is_letter b ≡ false
    → is_digit b ≡ false → is_quote b ≡ false → punctuation_of (b ∷ rest) ≡ Some m
    → (other : TokenKind) (size : ℕ) → size ≤ length (b ∷ rest)
    → IsLexeme other (take size (b ∷ rest)) → size ≤ length (punctuation_text m)
lexeme_longest b rest m letter digit quote found (Name name) size within h =
    absurd (both_ways (is_letter b) letter (lexeme_begins (Name name) b rest size h).1)
lexeme_longest b rest m letter digit quote found (Keyword w) size within h =
    absurd (both_ways (is_letter b) letter (lexeme_begins (Keyword w) b rest size h).1)
lexeme_longest b rest m letter digit quote found (Number value) size within h =
    absurd (both_ways (is_digit b) digit (lexeme_begins (Number value) b rest size h).1)
lexeme_longest b rest m letter digit quote found (Punctuation other) size within h =
    punctuation_longest (b ∷ rest) m found other size within h
lexeme_longest b rest m letter digit quote found (StringLiteral inner) size within h =
    absurd (both_ways (is_quote b) quote (lexeme_begins (StringLiteral inner) b rest size h).1)

punctuation_meets_by : (b : ℕ) (rest : List ℕ) (k : TokenKind) (n : ℕ) → is_letter b ≡ false
    → is_digit b ≡ false → is_quote b ≡ false → opens_comment (b ∷ rest) ≡ false
    → (o : Option punctuation.Punctuation) → punctuation_of (b ∷ rest) ≡ o
    → punctuation_with_length o ≡ Some (k, n) → Meets (b ∷ rest) (k, n)
punctuation_meets_by b rest k n letter digit quote plain None found e = absurd (cc)
punctuation_meets_by b rest k n letter digit quote plain (Some m) found e =
    let at_front = punctuation_at_front (b ∷ rest) m found in
    let short = punctuation_short m in
    let cut : length (punctuation_text m) ≡ length (take (length (punctuation_text m)) (b ∷ rest)) =
    ap length at_front in
    let least = length-take (length (punctuation_text m)) (b ∷ rest) in
    let pair : (Punctuation m, length (punctuation_text m)) ≡ (k, n) = cc in
    subst (Meets (b ∷ rest)) pair (
      record {
        within = omega arith;
        lexeme = at_front;
        apart = punctuation_apart m b rest at_front plain;
        longest = lexeme_longest b rest m letter digit quote found;
      },
      short.0,
    )

punctuation_meets : (b : ℕ) (rest : List ℕ) (k : TokenKind) (n : ℕ) → is_letter b ≡ false
    → is_digit b ≡ false → is_quote b ≡ false → punctuation_at (b ∷ rest) ≡ Some (k, n)
    → Meets (b ∷ rest) (k, n)
punctuation_meets b rest k n letter digit quote e = elim (either (opens_comment (b ∷ rest))) [
  | inl opens ↦ absurd (none_is_not_some (k, n)
      (pick_true (opens_comment (b ∷ rest)) None
      (punctuation_with_length (punctuation_of (b ∷ rest))) (Some (k, n)) e opens))
  | inr plain ↦ punctuation_meets_by b rest k n letter digit quote plain
      (punctuation_of (b ∷ rest)) refl (pick_false (opens_comment (b ∷ rest)) None
      (punctuation_with_length (punctuation_of (b ∷ rest))) (Some (k, n)) e plain)
]

-- what the scanner reads at a letter, a digit, a quote and any other byte
pub at_letter : (b : ℕ) (rest : List ℕ) → is_letter b ≡ true
    → token_at (b ∷ rest) ≡ Some (name_at (b ∷ rest))
at_letter b rest letter = rw letter refl

pub at_digit : (b : ℕ) (rest : List ℕ) → is_letter b ≡ false → is_digit b ≡ true
    → token_at (b ∷ rest) ≡ number_at (b ∷ rest)
at_digit b rest letter digit = rw (letter, digit) refl

pub at_quote : (b : ℕ) (rest : List ℕ) → is_letter b ≡ false → is_digit b ≡ false
    → is_quote b ≡ true → token_at (b ∷ rest) ≡ string_at (b ∷ rest)
at_quote b rest letter digit quote = rw (letter, digit, quote) refl

pub at_other : (b : ℕ) (rest : List ℕ) → is_letter b ≡ false → is_digit b ≡ false
    → is_quote b ≡ false → token_at (b ∷ rest) ≡ punctuation_at (b ∷ rest)
at_other b rest letter digit quote = rw (letter, digit, quote) refl

-- what the scanner finds is the token at the front
pub token_meets : (text : List ℕ) (k : TokenKind) (n : ℕ) → token_at text ≡ Some (k, n)
    → Meets text (k, n)
token_meets [] k n e = absurd (none_is_not_some (k, n) e)
token_meets (b ∷ rest) k n e = elim (either (is_letter b)) [
  | inl letter ↦ let same : name_at (b ∷ rest) ≡ (k, n) =
      some_same (sym (at_letter b rest letter) ∙ e) in
      subst (Meets (b ∷ rest)) same (name_meets b rest letter)
  | inr no_letter ↦ elim (either (is_digit b)) [
    | inl digit ↦ number_meets b rest k n digit (sym (at_digit b rest no_letter digit) ∙ e)
    | inr no_digit ↦ elim (either (is_quote b)) [
      | inl quote ↦ string_meets b rest k n quote
          (sym (at_quote b rest no_letter no_digit quote) ∙ e)
      | inr no_quote ↦ punctuation_meets b rest k n no_letter no_digit no_quote
          (sym (at_other b rest no_letter no_digit no_quote) ∙ e)
    ]
  ]
]
