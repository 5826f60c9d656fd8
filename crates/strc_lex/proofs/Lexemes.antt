-- What a lexeme begins with, and how far it can go.
use Rattle.std.proofs.Common.{◌≡◌, ℕ, zero, suc, ◌<◌, ◌≤◌, Bool, true, false, cond, List, [], ◌∷◌}
use Rattle.std.proofs.Common.{length, take, refl, arith, subst, ◌||◌}
use Rattle.std.specs.List.{list_all, prefix_len}
use Rattle.std.proofs.lemmas.Bool.Decides.{nat_tests}
use Rattle.strc_lex.specs.Characters.{is_white, is_digit, is_letter, is_name_byte, is_quote}
use Rattle.strc_lex.specs.KeywordTexts.{keyword_text}
use Rattle.strc_lex.specs.PunctuationTexts.{punctuation_text}
use Rattle.strc_lex.specs.Text.{IsNameText, IsLexeme, IsToken}
use Rattle.strc_lex.specs.declared.token.TokenKind.{TokenKind}
use Rattle.strc_lex.specs.declared.token.TokenKind.TheVariants.{Name, Number, Keyword, Punctuation}
use Rattle.strc_lex.specs.declared.token.TokenKind.TheVariants.{StringLiteral}
use Rattle.strc_lex.specs.declared.token.Keyword as keywords
use Rattle.strc_lex.specs.declared.token.Keyword.TheVariants as keyword
use Rattle.strc_lex.specs.declared.token.Punctuation as punctuation
use Rattle.strc_lex.specs.declared.token.Punctuation.TheVariants as symbol
use Rattle.strc_lex.proofs.Finding.{both_parts}

-- what the first byte of each kind is
abbrev pub Begins : TokenKind → ℕ → Type 0
Begins (Name name) b = is_letter b ≡ true
Begins (Keyword w) b = is_letter b ≡ true
Begins (Number value) b = is_digit b ≡ true
Begins (Punctuation m) b = (is_letter b ≡ false) × (is_digit b ≡ false) × (is_white b ≡ false)
    × (is_quote b ≡ false)
Begins (StringLiteral inner) b = is_quote b ≡ true

-- the scanner's answer, as a token that isn't empty
abbrev pub Meets : List ℕ → TokenKind × ℕ → Type 0
Meets text found = IsToken text found.0 found.1 × (0 < found.1)

abbrev starts_letter : List ℕ → Bool
starts_letter [] = false
starts_letter (b ∷ bytes) = is_letter b

abbrev starts_punctuation : List ℕ → Bool
starts_punctuation [] = false
starts_punctuation (b ∷ bytes) = cond (is_letter b) false
    (cond (is_digit b) false (cond (is_white b) false (cond (is_quote b) false true)))

letter_black : (b : ℕ) → is_letter b ≡ true → is_white b ≡ false
letter_black b letter = grind (arith, nat_tests)

digit_black : (b : ℕ) → is_digit b ≡ true → is_white b ≡ false
digit_black b digit = grind (arith, nat_tests)

-- no letter is a digit, and no quote is either
pub letter_no_digit : (b : ℕ) → is_letter b ≡ true → is_digit b ≡ true → ⊥
letter_no_digit b letter digit = grind (arith, nat_tests)

pub digit_no_letter : (b : ℕ) → is_digit b ≡ true → is_letter b ≡ false
digit_no_letter b digit = grind (arith, nat_tests)

pub quote_no_letter : (b : ℕ) → is_quote b ≡ true → is_letter b ≡ false
quote_no_letter b quote = grind (arith, nat_tests)

pub quote_no_digit : (b : ℕ) → is_quote b ≡ true → is_digit b ≡ false
quote_no_digit b quote = grind (arith, nat_tests)

quote_black : (b : ℕ) → is_quote b ≡ true → is_white b ≡ false
quote_black b quote = grind (arith, nat_tests)

keyword_starts : (w : keywords.Keyword) → starts_letter (keyword_text w) ≡ true
keyword_starts keyword.Filter = refl
keyword_starts w = refl

punctuation_starts : (m : punctuation.Punctuation) → starts_punctuation (punctuation_text m) ≡ true
punctuation_starts symbol.Arrow = refl
punctuation_starts m = refl

pub keyword_runs : (w : keywords.Keyword) → list_all is_name_byte (keyword_text w) ≡ true
keyword_runs keyword.Filter = refl
keyword_runs w = refl

split_punctuation : (l d w q : Bool) → cond l false
    (cond d false (cond w false (cond q false true))) ≡ true
    → (l ≡ false) × (d ≡ false) × (w ≡ false) × (q ≡ false)
split_punctuation true d w q e = absurd (cc)
split_punctuation false true w q e = absurd (cc)
split_punctuation false false true q e = absurd (cc)
split_punctuation false false false true e = absurd (cc)
split_punctuation false false false false e = (refl, refl, refl, refl)

pub no_empty_lexeme : (kind : TokenKind) → IsLexeme kind [] → ⊥
no_empty_lexeme (Name name) h = h.1
no_empty_lexeme (Number value) h = h.0
no_empty_lexeme (Keyword w) h = let bad : false ≡ true =
    subst (λ bytes. starts_letter bytes ≡ true) h
    (keyword_starts w) in absurd (cc)
no_empty_lexeme (Punctuation m) h = let bad : false ≡ true =
    subst (λ bytes. starts_punctuation bytes ≡ true) h
    (punctuation_starts m) in absurd (cc)
no_empty_lexeme (StringLiteral inner) h = absurd (cc (h.0))

-- no token begins with white space
pub begins_black : (kind : TokenKind) (b : ℕ) → Begins kind b → is_white b ≡ false
begins_black (Name name) b letter = letter_black b letter
begins_black (Keyword w) b letter = letter_black b letter
begins_black (Number value) b digit = digit_black b digit
begins_black (Punctuation m) b mark = mark.2
begins_black (StringLiteral inner) b quote = quote_black b quote

-- a lexeme at the front isn't empty, and begins as its kind does
pub lexeme_begins : (kind : TokenKind) (b : ℕ) (rest : List ℕ) (size : ℕ)
    → IsLexeme kind (take size (b ∷ rest)) → (0 < size) × Begins kind b
lexeme_begins (Name name) b rest zero h = absurd h.1
lexeme_begins (Name name) b rest (suc n) h = (omega arith, h.1.0)
lexeme_begins (Number value) b rest zero h = absurd h.0
lexeme_begins (Number value) b rest (suc n) h = (omega arith, h.0.0)
lexeme_begins (Keyword w) b rest zero h = let bad : false ≡ true =
    subst (λ bytes. starts_letter bytes ≡ true) h
    (keyword_starts w) in absurd (cc)
lexeme_begins (Keyword w) b rest (suc n) h =
    (omega arith, subst (λ bytes. starts_letter bytes ≡ true) h (keyword_starts w))
lexeme_begins (Punctuation m) b rest zero h = let bad : false ≡ true =
    subst (λ bytes. starts_punctuation bytes ≡ true)
    h (punctuation_starts m) in absurd (cc)
lexeme_begins (Punctuation m) b rest (suc n) h = (
  omega arith,
  split_punctuation (is_letter b) (is_digit b) (is_white b) (is_quote b)
      (subst (λ bytes. starts_punctuation bytes ≡ true) h (punctuation_starts m)),
)
lexeme_begins (StringLiteral inner) b rest zero h = absurd (cc (h.0))
lexeme_begins (StringLiteral inner) b rest (suc n) h = let quote : b ≡ 34 = cc (h.0) in
    (omega arith, rw quote refl)

-- as far as each element passes, the run goes
pub run_bound : (p : ℕ → Bool) (xs : List ℕ) (size : ℕ) → size ≤ length xs
    → list_all p (take size xs) ≡ true → size ≤ prefix_len p xs
run_bound p [] zero within all = omega arith
run_bound p [] (suc n) within all = absurd (omega arith)
run_bound p (x ∷ xs) zero within all = omega arith
run_bound p (x ∷ xs) (suc n) within all =
    let parts = both_parts (p x) (list_all p (take n xs)) all in
    let more = run_bound p xs n (omega arith) parts.1 in
    rw parts.0 (omega arith)

or_left : (a b : Bool) → a ≡ true → (a || b) ≡ true
or_left true b e = refl
or_left false b e = absurd (cc)

or_right : (a b : Bool) → b ≡ true → (a || b) ≡ true
or_right true b e = refl
or_right false b e = e

pub letter_is_name_byte : (b : ℕ) → is_letter b ≡ true → is_name_byte b ≡ true
letter_is_name_byte b e = or_left (is_letter b) (is_digit b) e

pub digit_is_name_byte : (b : ℕ) → is_digit b ≡ true → is_name_byte b ≡ true
digit_is_name_byte b e = or_right (is_letter b) (is_digit b) e

-- a name is name bytes throughout
pub name_runs : (bytes : List ℕ) → IsNameText bytes → list_all is_name_byte bytes ≡ true
name_runs [] h = absurd h
name_runs (b ∷ bytes) h = rw (letter_is_name_byte b h.0) h.1
