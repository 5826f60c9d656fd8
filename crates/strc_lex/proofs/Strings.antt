-- What the scanner finds at a quote is the string there, and the only one.
use Rattle.std.proofs.Common.{◌≡◌, ℕ, zero, suc, ◌+◌, ◌<◌, ◌≤◌, true, List, [], ◌∷◌, ◌++◌, length}
use Rattle.std.proofs.Common.{take, drop, refl, ap, arith, ◌∙◌, sym, subst, Some, None, inl, inr}
use Rattle.std.specs.List.{list_all, take_while}
use Rattle.std.proofs.lemmas.List.{length-append, length-take-le}
use Rattle.std.proofs.Math.Seq.{take-nil}
use Rattle.std.proofs.lemmas.Bool.{both_ways}
use Rattle.std.proofs.lemmas.Bool.Decides.{nat_tests}
use Rattle.strc_lex.specs.Characters.{is_digit, is_letter, is_quote, is_string_byte}
use Rattle.strc_lex.specs.Text.{IsLexeme}
use Rattle.strc_lex.specs.Scanning.{is_closed, string_at}
use Rattle.strc_lex.specs.declared.token.TokenKind.{TokenKind}
use Rattle.strc_lex.specs.declared.token.TokenKind.TheVariants.{Name, Number, Keyword, Punctuation}
use Rattle.strc_lex.specs.declared.token.TokenKind.TheVariants.{StringLiteral}
use Rattle.strc_lex.proofs.Finding.{either, both_parts, pick_true, pick_false, none_is_not_some}
use Rattle.strc_lex.proofs.Finding.{some_is_not_none, some_same}
use Rattle.strc_lex.proofs.Lexemes.{Meets, lexeme_begins, quote_no_letter, quote_no_digit}
use Rattle.strc_lex.proofs.Runs.{run_head, take-run, list_all-take_while}

quote_is : (b : ℕ) → is_quote b ≡ true → b ≡ 34
quote_is b quote = grind (arith, nat_tests)

-- what is before a closing quote is the run of string bytes
pub string_run : (inner rest : List ℕ) (n : ℕ) → take n rest ≡ inner ++ 34 ∷ []
    → list_all is_string_byte inner ≡ true
    → (inner ≡ take_while is_string_byte rest) × (is_closed (drop (length inner) rest) ≡ true)
string_run [] [] n e all = let none = take-nil {A = ℕ} n in absurd (cc)
string_run (c ∷ inner) [] n e all = let none = take-nil {A = ℕ} n in absurd (cc)
string_run [] (x ∷ rest) zero e all = absurd (cc)
string_run (c ∷ inner) (x ∷ rest) zero e all = absurd (cc)
string_run [] (x ∷ rest) (suc n) e all = let quote : x ≡ 34 = cc in (rw quote refl, rw quote refl)
string_run (c ∷ inner) (x ∷ rest) (suc n) e all =
    let head : c ≡ x = cc in
    let more : take n rest ≡ inner ++ 34 ∷ [] = cc in
    let parts = both_parts (is_string_byte c) (list_all is_string_byte inner) all in
    let run = string_run inner rest n more parts.1 in (
      ap (λ y. y ∷ inner) head ∙ ap (λ ys. x ∷ ys) run.0
          ∙ sym (run_head is_string_byte x rest
          (subst (λ y. is_string_byte y ≡ true) head parts.0)),
      run.1,
    )

-- how long a string at the front is, and what is in it
pub string_size : (b : ℕ) (rest inner : List ℕ) (size : ℕ) → size ≤ length (b ∷ rest)
    → IsLexeme (StringLiteral inner) (take size (b ∷ rest))
    → (inner ≡ take_while is_string_byte rest) × (is_closed (drop (length inner) rest) ≡ true)
    × (size ≡ length inner + 2)
string_size b rest inner zero within h = absurd (cc (h.0))
string_size b rest inner (suc n) within h =
    let more : take n rest ≡ inner ++ 34 ∷ [] = cc (h.0) in
    let run = string_run inner rest n more h.1 in
    let fits : n ≤ length rest = omega arith in (
      run.0,
      run.1,
      omega (
        arith,
        ap length more,
        length-take-le n rest fits,
        length-append inner (34 ∷ []),
      ),
    )

-- two strings of the same bytes are one
pub string_only : (b : ℕ) (rest : List ℕ) (n : ℕ) (x y : List ℕ)
    → IsLexeme (StringLiteral x) (take n (b ∷ rest))
    → IsLexeme (StringLiteral y) (take n (b ∷ rest)) → x ≡ y
string_only b rest zero x y h g = absurd (cc (h.0))
string_only b rest (suc n) x y h g = (string_run x rest n (cc (h.0)) h.1).0
    ∙ sym (string_run y rest n (cc (g.0)) g.1).0

-- a quote after the run is within the text, and ends the string
closing : (n : ℕ) (rest : List ℕ) → is_closed (drop n rest) ≡ true
    → (n < length rest) × (take (suc n) rest ≡ take n rest ++ 34 ∷ [])
closing zero [] e = absurd (cc)
closing zero (x ∷ rest) e = (omega arith, ap (λ y. y ∷ []) (quote_is x e))
closing (suc n) [] e = absurd (cc)
closing (suc n) (x ∷ rest) e = let more = closing n rest e in
    (omega (arith, more.0), ap (λ ys. x ∷ ys) more.1)

-- at a quote nothing is longer than the string
string_longest : (b : ℕ) (rest : List ℕ) → is_quote b ≡ true → (other : TokenKind) (size : ℕ)
    → size ≤ length (b ∷ rest) → IsLexeme other (take size (b ∷ rest))
    → size ≤ length (take_while is_string_byte rest) + 2
string_longest b rest quote (Name name) size within h =
    absurd (both_ways (is_letter b) (quote_no_letter b quote)
    (lexeme_begins (Name name) b rest size h).1)
string_longest b rest quote (Keyword w) size within h =
    absurd (both_ways (is_letter b) (quote_no_letter b quote)
    (lexeme_begins (Keyword w) b rest size h).1)
string_longest b rest quote (Number value) size within h =
    absurd (both_ways (is_digit b) (quote_no_digit b quote)
    (lexeme_begins (Number value) b rest size h).1)
string_longest b rest quote (Punctuation m) size within h =
    absurd (both_ways (is_quote b) (lexeme_begins (Punctuation m) b rest size h).1.3 quote)
string_longest b rest quote (StringLiteral inner) size within h = let found =
    string_size b rest inner
    size within h in
    omega (
      arith,
      ap length found.0,
      found.2,
    )

-- the run between two quotes is a string
string_text : (b : ℕ) (rest : List ℕ) → is_quote b ≡ true
    → is_closed (drop (length (take_while is_string_byte rest)) rest) ≡ true
    → IsLexeme (StringLiteral (take_while is_string_byte rest))
    (take (length (take_while is_string_byte rest) + 2) (b ∷ rest))
string_text b rest quote closed =
    let n = length (take_while is_string_byte rest) in
    let two : n + 2 ≡ suc (suc n) = omega arith in (
      ap (λ k. take k (b ∷ rest)) two ∙ ap (λ x. x ∷ take (suc n) rest) (quote_is b quote)
          ∙ ap (λ xs. 34 ∷ xs) (closing n rest closed).1
          ∙ ap (λ xs. 34 ∷ xs ++ 34 ∷ []) (take-run is_string_byte rest n refl),
      list_all-take_while is_string_byte rest,
    )

pub string_meets : (b : ℕ) (rest : List ℕ) (k : TokenKind) (n : ℕ) → is_quote b ≡ true
    → string_at (b ∷ rest) ≡ Some (k, n) → Meets (b ∷ rest) (k, n)
string_meets b rest k n quote e =
    let inner = take_while is_string_byte rest in
    let closed = is_closed (drop (length inner) rest) in
    elim (either (is_closed (drop (length (take_while is_string_byte rest)) rest))) [
      | inl ends ↦
          let pair : (StringLiteral inner, length inner + 2) ≡ (k, n) =
          some_same (pick_true closed (Some (StringLiteral inner, length inner + 2)) None
          (Some (k, n)) e ends) in
          let within = (closing (length inner) rest ends).0 in
          subst (Meets (b ∷ rest)) pair (
            record {
              within = omega (arith, within);
              lexeme = string_text b rest quote ends;
              apart = tt;
              longest = string_longest b rest quote;
            },
            omega arith,
          )
      | inr unclosed ↦ absurd (none_is_not_some (k, n)
          (pick_false closed (Some (StringLiteral inner, length inner + 2)) None
          (Some (k, n)) e unclosed))
    ]

-- where there is a string, the scanner finds something
pub missed_string : (b : ℕ) (rest inner : List ℕ) (n : ℕ) → n ≤ length (b ∷ rest)
    → IsLexeme (StringLiteral inner) (take n (b ∷ rest)) → string_at (b ∷ rest) ≡ None → ⊥
missed_string b rest inner n within h e =
    let found = string_size b rest inner n within h in
    let run = take_while is_string_byte rest in
    let closed : is_closed (drop (length run) rest) ≡ true =
    subst (λ xs. is_closed (drop (length xs) rest) ≡ true) found.0 found.1 in
    some_is_not_none (StringLiteral run, length run + 2)
    (pick_true (is_closed (drop (length run) rest))
    (Some (StringLiteral run, length run + 2)) None None e closed)
