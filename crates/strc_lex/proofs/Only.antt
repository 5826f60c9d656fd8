-- The token at the front of a text is what the scanner finds: there is no other.
use Rattle.std.proofs.Common.{◌≡◌, ℕ, suc, ◌<◌, ◌≤◌, Bool, true, false, cond, List, [], ◌∷◌, length}
use Rattle.std.proofs.Common.{take, drop, refl, ap, arith, ◌∙◌, sym, subst, Option, Some, None, ◌⊎◌}
use Rattle.std.proofs.Common.{inl, inr, nat_eq, nat_le, ◌&&◌, codes, get_or}
use Rattle.std.specs.List.{prefix_len, take_while, starts_with}
use Rattle.std.specs.Int.{w32, cast_signed}
use Rattle.std.proofs.lemmas.List.Folds.{length-prefix_len}
use Rattle.std.proofs.lemmas.List.Sums.{prefix_len-le-length, prefix_len_passes}
use Rattle.std.proofs.lemmas.Bool.{both_ways, le-leb}
use Rattle.std.proofs.Math.Seq.{drop-cons, take-nil}
use Rattle.strc_lex.specs.Characters.{is_digit, is_letter, is_name_byte, is_quote}
use Rattle.strc_lex.specs.PunctuationTexts.{punctuation_text}
use Rattle.strc_lex.specs.Text.{IsNumeral, IsLexeme, IsApart, IsToken, number_from}
use Rattle.strc_lex.specs.Scanning.{keyword_of, name_at, number_at, number_with_length, bounded}
use Rattle.strc_lex.specs.Scanning.{is_plain, ends_number, punctuation_at, punctuation_of}
use Rattle.strc_lex.specs.Scanning.{opens_comment, punctuation_with_length, token_at}
use Rattle.strc_lex.specs.declared.token.TokenKind.{TokenKind}
use Rattle.strc_lex.specs.declared.token.TokenKind.TheVariants.{Name, Number, Keyword, Punctuation}
use Rattle.strc_lex.specs.declared.token.TokenKind.TheVariants.{StringLiteral}
use Rattle.strc_lex.specs.declared.token.Punctuation as punctuation
use Rattle.strc_lex.specs.declared.token.Punctuation.TheVariants as symbol
use Rattle.strc_lex.proofs.Finding.{either, pick_true, pick_false, or_false, some_is_not_none}
use Rattle.strc_lex.proofs.Finding.{some_same, same-pointwise}
use Rattle.strc_lex.proofs.Lexemes.{Begins, lexeme_begins, no_empty_lexeme, digit_is_name_byte}
use Rattle.strc_lex.proofs.Lexemes.{digit_no_letter, quote_no_letter, quote_no_digit}
use Rattle.strc_lex.proofs.Runs.{take-run}
use Rattle.strc_lex.proofs.Tokens.{keyword_again, number_longest, zero_plain, apart_ends}
use Rattle.strc_lex.proofs.Tokens.{punctuation_again, punctuation_not_missed, size_of_punctuation}
use Rattle.strc_lex.proofs.Tokens.{at_letter, at_digit, at_quote, at_other, token_meets}
use Rattle.strc_lex.proofs.Strings.{string_only, missed_string}

punctuation_of_text : (m : punctuation.Punctuation) → punctuation_of (punctuation_text m) ≡ Some m
punctuation_of_text symbol.Arrow = refl
punctuation_of_text m = refl

-- kinds that can begin alike
abbrev family : TokenKind → ℕ
family (Name name) = 0
family (Keyword w) = 0
family (Number value) = 1
family (Punctuation m) = 2
family (StringLiteral inner) = 3

abbrev family_at : ℕ → ℕ
family_at b = cond (is_letter b) 0 (cond (is_digit b) 1 (cond (is_quote b) 3 2))

begins_family : (kind : TokenKind) (b : ℕ) → Begins kind b → family_at b ≡ family kind
begins_family (Name name) b letter = rw letter refl
begins_family (Keyword w) b letter = rw letter refl
begins_family (Number value) b digit = rw (digit_no_letter b digit, digit) refl
begins_family (Punctuation m) b none = rw (none.0, none.1, none.3) refl
begins_family (StringLiteral inner) b quote =
    rw (quote_no_letter b quote, quote_no_digit b quote, quote) refl

-- the same bytes are of one kind
kind_only : (b : ℕ) (rest : List ℕ) (n : ℕ) (k l : TokenKind) → IsLexeme k (take n (b ∷ rest))
    → IsLexeme l (take n (b ∷ rest)) → k ≡ l
kind_only b rest n (Name x) (Name y) h g = ap Name (h.0 ∙ sym g.0)
kind_only b rest n (Name x) (Keyword w) h g = absurd (h.2 w g)
kind_only b rest n (Keyword w) (Name x) h g = absurd (g.2 w h)
kind_only b rest n (Keyword w) (Keyword v) h g =
    ap Keyword (some_same (sym (keyword_again w) ∙ ap keyword_of (h ∙ sym g) ∙ keyword_again v))
kind_only b rest n (Number u) (Number v) h g = ap Number (h.2 ∙ sym g.2)
kind_only b rest n (Punctuation m) (Punctuation l) h g =
    ap Punctuation (some_same (sym (punctuation_of_text m) ∙ ap punctuation_of (h ∙ sym g)
    ∙ punctuation_of_text l))
kind_only b rest n (StringLiteral x) (StringLiteral y) h g =
    ap StringLiteral (string_only b rest n x y h g)
kind_only b rest n k l h g = let same : family k ≡ family l =
    sym (begins_family k b (lexeme_begins k b rest n h).1)
    ∙ begins_family l b (lexeme_begins l b rest n g).1 in absurd (cc)

-- where there is a letter, the scanner finds something
missed_letter : (b : ℕ) (rest : List ℕ) → is_letter b ≡ true → token_at (b ∷ rest) ≡ None → ⊥
missed_letter b rest letter e = some_is_not_none (name_at (b ∷ rest))
    (sym (at_letter b rest letter) ∙ e)

numeral_plain : (bytes : List ℕ) → IsNumeral bytes → is_plain bytes ≡ true
numeral_plain [] h = absurd h
numeral_plain (b ∷ bytes) h = zero_plain b bytes h.2

-- a number's digits are the whole run
number_size : (b : ℕ) (rest : List ℕ) (v : _) (n : ℕ) → is_digit b ≡ true
    → IsToken (b ∷ rest) (Number v) n → n ≡ length (take_while is_digit (b ∷ rest))
number_size b rest v n digit t =
    let most = number_longest b rest digit (Number v) n t.within t.lexeme in
    let reach = prefix_len-le-length is_digit (b ∷ rest) in
    let size = length-prefix_len is_digit (b ∷ rest) in
    let stops : n < prefix_len is_digit (b ∷ rest) → ⊥ = λ short.
    let passes = prefix_len_passes is_digit (b ∷ rest) n 0 short in
    let within : n < length (b ∷ rest) = omega arith in
    let apart : IsApart (Number v) (get_or (b ∷ rest) n 0 ∷ drop (suc n) (b ∷ rest)) =
    subst (IsApart (Number v)) (drop-cons (b ∷ rest) n 0 within) t.apart in
    both_ways (is_name_byte (get_or (b ∷ rest) n 0)) apart
    (digit_is_name_byte (get_or (b ∷ rest) n 0) passes) in
    omega (arith, size, most, stops)

-- where there is a number, the scanner finds something
missed_number : (b : ℕ) (rest : List ℕ) (v : _) (n : ℕ) → is_digit b ≡ true
    → IsToken (b ∷ rest) (Number v) n → number_at (b ∷ rest) ≡ None → ⊥
missed_number b rest v n digit t e =
    let digits = take_while is_digit (b ∷ rest) in
    let size = number_size b rest v n digit t in
    let run : take n (b ∷ rest) ≡ digits = take-run is_digit (b ∷ rest) n size in
    let plain : is_plain digits ≡ true = numeral_plain digits (subst IsNumeral run t.lexeme.0) in
    let ends : ends_number (drop (length digits) (b ∷ rest)) ≡ true =
    subst (λ k. ends_number (drop k (b ∷ rest)) ≡ true) size
    (apart_ends v (drop n (b ∷ rest)) t.apart) in
    let low : nat_le (number_from 0 digits) 2147483648 ≡ true =
    subst (λ bytes. nat_le (number_from 0 bytes) 2147483648 ≡ true) run
    (le-leb _ _ t.lexeme.1) in
    let both : (is_plain digits && ends_number (drop (length digits) (b ∷ rest))) ≡ true =
    rw (plain, ends) refl in
    let found = pick_true (is_plain digits && ends_number (drop (length digits) (b ∷ rest)))
    (number_with_length (length digits) (bounded (number_from 0 digits))) None None e both in
    let given : bounded (number_from 0 digits) ≡ Some (number_from 0 digits) = rw low refl in
    some_is_not_none (Number (cast_signed w32 (number_from 0 digits)), length digits)
    (sym (ap (number_with_length (length digits)) given) ∙ found)

-- a text that opens a comment begins with `/` and then `/` or `*`
pub record OpensComment (b : ℕ) (rest : List ℕ) : Type 0 where
  pub next : ℕ
  pub more : List ℕ
  pub is_rest : rest ≡ next ∷ more
  pub slash : b ≡ 47
  pub opening : (next ≡ 47) ⊎ (next ≡ 42)

opening : (b : ℕ) (rest : List ℕ) → opens_comment (b ∷ rest) ≡ true → OpensComment b rest
opening b [] e = absurd (elim (either (starts_with nat_eq (b ∷ []) (codes "//"))) [
  | inl line ↦ let bad : 47 ∷ 47 ∷ [] ≡ b ∷ [] =
      same-pointwise (codes "//") (take 2 (b ∷ [])) line in absurd (cc)
  | inr block ↦ let bad : 47 ∷ 42 ∷ [] ≡ b ∷ [] =
      same-pointwise (codes "/*") (take 2 (b ∷ [])) (or_false _ _ e block) in
      absurd (cc)
])
opening b (c ∷ rest) e = elim (either (starts_with nat_eq (b ∷ c ∷ rest) (codes "//"))) [
  | inl line ↦ let same : 47 ∷ 47 ∷ [] ≡ b ∷ c ∷ [] =
      same-pointwise (codes "//") (take 2 (b ∷ c ∷ rest)) line in
      record {
        next = c;
        more = rest;
        is_rest = refl;
        slash = cc;
        opening =
            inl (cc);
      }
  | inr block ↦ let same : 47 ∷ 42 ∷ [] ≡ b ∷ c ∷ [] =
      same-pointwise (codes "/*") (take 2 (b ∷ c ∷ rest)) (or_false _ _ e block) in
      record {
        next = c;
        more = rest;
        is_rest = refl;
        slash = cc;
        opening =
            inr (cc);
      }
]

-- a punctuation mark that begins with `/` and is not `/=`
abbrev is_bare_slash : List ℕ → Bool
is_bare_slash [] = false
is_bare_slash (b ∷ []) = nat_eq b 47
is_bare_slash (b ∷ c ∷ rest) = cond (nat_eq b 47) (cond (nat_eq c 61) false true) false

slash_alone : (m : punctuation.Punctuation)
    → (m ≡ symbol.Slash) ⊎ (is_bare_slash (punctuation_text m) ≡ false)
slash_alone symbol.Slash = inl refl
slash_alone m = inr refl

bare_slash_at_comment : (n c : ℕ) (rest : List ℕ) → (n ≡ 2) ⊎ (n ≡ 1) → (c ≡ 47) ⊎ (c ≡ 42)
    → is_bare_slash (take n (47 ∷ c ∷ rest)) ≡ true
bare_slash_at_comment n c rest (inl two) (inl line) = rw (two, line) refl
bare_slash_at_comment n c rest (inl two) (inr block) = rw (two, block) refl
bare_slash_at_comment n c rest (inr one) o = rw one refl

punctuation_size : (m : punctuation.Punctuation)
    → (length (punctuation_text m) ≡ 2) ⊎ (length (punctuation_text m) ≡ 1)
punctuation_size m = elim (punctuation_again m) [ inl two ↦ inl two.1 | inr one ↦ inr one.1 ]

-- no punctuation mark is a token there
no_punctuation_at_comment : (m : punctuation.Punctuation) (c : ℕ) (rest : List ℕ)
    → (c ≡ 47) ⊎ (c ≡ 42) → punctuation_text m ≡ take (length (punctuation_text m)) (47 ∷ c ∷ rest)
    → IsApart (Punctuation m) (drop (length (punctuation_text m)) (47 ∷ c ∷ rest)) → ⊥
no_punctuation_at_comment m c rest o e apart = elim (slash_alone m) [
  | inl slash ↦
      let here : IsApart (Punctuation symbol.Slash) (c ∷ rest) =
      subst (λ v. IsApart (Punctuation v)
      (drop (length (punctuation_text v)) (47 ∷ c ∷ rest))) slash apart in
      elim o [ inl line ↦ here.0 line | inr block ↦ here.1 block ]
  | inr other ↦ both_ways (is_bare_slash (punctuation_text m)) other
      (subst (λ bytes. is_bare_slash bytes ≡ true) (sym e)
      (bare_slash_at_comment (length (punctuation_text m)) c rest (punctuation_size m) o))
]

-- where there is a punctuation mark, the scanner finds something
missed_punctuation : (b : ℕ) (rest : List ℕ) (m : punctuation.Punctuation) (n : ℕ)
    → IsToken (b ∷ rest) (Punctuation m) n → punctuation_at (b ∷ rest) ≡ None → ⊥
missed_punctuation b rest m n t e =
    let size = size_of_punctuation (b ∷ rest) m n t.within t.lexeme in
    elim (either (opens_comment (b ∷ rest))) [
      | inl opens ↦
          let o = opening b rest opens in
          let text : b ∷ rest ≡ 47 ∷ o.next ∷ o.more =
          ap (λ x. x ∷ rest) o.slash ∙ ap (λ xs. 47 ∷ xs) o.is_rest in
          no_punctuation_at_comment m o.next o.more o.opening
          (subst (λ xs. punctuation_text m ≡ take (length (punctuation_text m)) xs) text
          (subst (λ k. punctuation_text m ≡ take k (b ∷ rest)) (sym size) t.lexeme))
          (subst (λ xs. IsApart (Punctuation m) (drop (length (punctuation_text m)) xs)) text
          (subst (λ k. IsApart (Punctuation m) (drop k (b ∷ rest))) (sym size) t.apart))
      | inr plain ↦ by (punctuation_of (b ∷ rest)) refl
          (pick_false (opens_comment (b ∷ rest)) None
          (punctuation_with_length (punctuation_of (b ∷ rest))) None e plain)
    ] where
      by : (o : Option punctuation.Punctuation) → punctuation_of (b ∷ rest) ≡ o
          → punctuation_with_length o ≡ None → ⊥
      by None none bad = punctuation_not_missed (b ∷ rest) m n t.within t.lexeme none
      by (Some v) found bad = some_is_not_none (Punctuation v, length (punctuation_text v)) bad

-- where there is a token, the scanner finds something
missed : (text : List ℕ) (k : TokenKind) (n : ℕ) → IsToken text k n → token_at text ≡ None → ⊥
missed [] k n t e = no_empty_lexeme k (subst (IsLexeme k) (take-nil n) t.lexeme)
missed (b ∷ rest) (Name name) n t e = missed_letter b rest
    (lexeme_begins (Name name) b rest n t.lexeme).1 e
missed (b ∷ rest) (Keyword w) n t e = missed_letter b rest
    (lexeme_begins (Keyword w) b rest n t.lexeme).1 e
missed (b ∷ rest) (Number v) n t e =
    let digit = (lexeme_begins (Number v) b rest n t.lexeme).1 in
    missed_number b rest v n digit t (sym (at_digit b rest (digit_no_letter b digit) digit) ∙ e)
missed (b ∷ rest) (Punctuation m) n t e =
    let begins = (lexeme_begins (Punctuation m) b rest n t.lexeme).1 in
    missed_punctuation b rest m n t (sym (at_other b rest begins.0 begins.1 begins.3) ∙ e)
missed (b ∷ rest) (StringLiteral inner) n t e =
    let quote = (lexeme_begins (StringLiteral inner) b rest n t.lexeme).1 in
    missed_string b rest inner n t.within t.lexeme
    (sym (at_quote b rest (quote_no_letter b quote) (quote_no_digit b quote) quote) ∙ e)

-- a token at the front is what the scanner finds
pub token_only : (text : List ℕ) (k : TokenKind) (n : ℕ) → IsToken text k n
    → token_at text ≡ Some (k, n)
token_only [] k n t = absurd (no_empty_lexeme k (subst (IsLexeme k) (take-nil n) t.lexeme))
token_only (b ∷ rest) k n t = by (token_at (b ∷ rest)) refl where
  by : (o : Option (TokenKind × ℕ)) → token_at (b ∷ rest) ≡ o → token_at (b ∷ rest) ≡ Some (k, n)
  by None none = absurd (missed (b ∷ rest) k n t none)
  by (Some found) e =
      let here = (token_meets (b ∷ rest) found.0 found.1 e).0 in
      let up : n ≤ found.1 = here.longest k n t.within t.lexeme in
      let down : found.1 ≤ n = t.longest found.0 found.1 here.within here.lexeme in
      let size : found.1 ≡ n = omega arith in
      let kind : found.0 ≡ k = kind_only b rest n found.0 k
      (subst (λ m. IsLexeme found.0 (take m (b ∷ rest))) size here.lexeme) t.lexeme in
      e ∙ ap (λ x. Some (x, found.1)) kind ∙ ap (λ m. Some (k, m)) size
