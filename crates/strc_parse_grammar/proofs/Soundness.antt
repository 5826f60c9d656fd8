-- What holds of every reading: of what was read, of a refused token's place, and of the tokens
-- where trees nest too deep.
use Rattle.std.proofs.Common.{◌≡◌, ℕ, zero, suc, ◌+◌, ◌<◌, ◌≤◌, max, Bool, true, false, cond, List}
use Rattle.std.proofs.Common.{[], ◌∷◌, ◌++◌, length, Option, Some, None, Result, Ok, Err, refl, sym}
use Rattle.std.proofs.Common.{ap, subst, ◌∙◌, arith, inl, inr, ◌⊎◌}
use Rattle.std.proofs.lemmas.Bool.{cases_lt, cases_Bool}
use denote.Enum.Bare.{sameb, same_true}
use Rattle.strc_lex.specs.contracts.token.Punctuation.{the_type as punctuation_type}
use Rattle.strc_lex.specs.contracts.token.Keyword.{the_type as keyword_type}
use Rattle.strc_lex.specs.declared.token.TokenKind.{TokenKind}
use Rattle.strc_lex.specs.declared.token.TokenKind.TheVariants as token
use Rattle.strc_lex.specs.declared.token.Keyword.{Keyword}
use Rattle.strc_lex.specs.declared.token.Punctuation.{Punctuation}
use Rattle.strc_parse_grammar.specs.declared.error.Fault.{Fault}
use Rattle.strc_parse_grammar.specs.declared.error.Fault.TheVariants.{Unexpected, Nesting}
use Rattle.std.specs.List.{AllByRecursion}
use Rattle.strc_lex.specs.declared.token.Punctuation.TheVariants as punctuation
use Rattle.strc_parse_grammar.specs.Grammar.{each_spelled, highest}
use Rattle.strc_parse_grammar.specs.Reading.{◌>>=◌, Read, tail, unexpected, is_punctuation}
use Rattle.strc_parse_grammar.specs.Reading.{is_keyword}
use Rattle.strc_parse_grammar.specs.Reading.{expect, expect_keyword, name, raised, repeated_by}
use Rattle.strc_parse_grammar.specs.Reading.{repeated}
use Rattle.strc_parse_grammar.specs.Reading.{brace, no_comma}
use Rattle.strc_parse_grammar.proofs.Completeness.{raised_low, raised_high}

-- What was read is good; a refused token is within; and where trees nest too deep, there are as
-- many tokens.
abbrev pub Sound : {R : Type 0} → (R → Type 0) → ℕ → List TokenKind → Result R Fault → Type 0
Sound Good deep tokens (Ok x) = Good x
Sound Good deep tokens (Err (Unexpected left)) = left ≤ length tokens
Sound Good deep tokens (Err Nesting) = deep ≤ length tokens

-- what was read is good
pub Sound-ok : {A : Type 0} (P : A → Type 0) (deep : ℕ) (tokens : List TokenKind)
    (r : Result A Fault)
    (x : A) → r ≡ Ok x → Sound P deep tokens r → P x
Sound-ok P deep tokens (Err e) x is sound = absurd cc
Sound-ok P deep tokens (Ok y) x is sound = let same : y ≡ x = cc in rw same at sound

pub Sound-then : {A B : Type 0} (P : A → Type 0) (Q : B → Type 0) (deep : ℕ)
    (tokens : List TokenKind) (r : Result A Fault) (f : A → Result B Fault) → Sound P deep tokens r
    → ((x : A) → P x → Sound Q deep tokens (f x)) → Sound Q deep tokens (r >>= f)
Sound-then P Q deep tokens (Ok x) f sound then = then x sound
Sound-then P Q deep tokens (Err (Unexpected left)) f sound then = sound
Sound-then P Q deep tokens (Err Nesting) f sound then = sound

-- a reading further on
pub Sound-on : {A : Type 0} (P Q : A → Type 0) (inner deep : ℕ) (rest tokens : List TokenKind)
    (r : Result A Fault) → length rest ≤ length tokens → deep + length rest ≤ inner + length tokens
    → Sound P inner rest r → ((x : A) → P x → Q x) → Sound Q deep tokens r
Sound-on P Q inner deep rest tokens (Ok x) le room sound then = then x sound
Sound-on P Q inner deep rest tokens (Err (Unexpected left)) le room sound then = omega arith
Sound-on P Q inner deep rest tokens (Err Nesting) le room sound then = omega arith

punctuation_cases : (wanted found : Punctuation) (rest : List TokenKind)
    → ((token.Punctuation found ∷ rest ≡ token.Punctuation wanted ∷ rest)
    × (expect wanted (token.Punctuation found ∷ rest) ≡ Ok rest))
    ⊎ (expect wanted (token.Punctuation found ∷ rest)
    ≡ unexpected (token.Punctuation found ∷ rest))
unfolding expect is_punctuation
punctuation_cases wanted found rest =
    elim (cases_Bool (sameb punctuation_type found wanted)) [
      | inl is ↦ inl (
        ap (λ (m : Punctuation). token.Punctuation m ∷ rest)
            (same_true punctuation_type tt found wanted is),
        rw is refl,
      )
      | inr is ↦ inr (rw is refl)
    ]

pub expect_cases : (wanted : Punctuation) (tokens : List TokenKind)
    → ((rest : List TokenKind) × (tokens ≡ token.Punctuation wanted ∷ rest)
    × (expect wanted tokens ≡ Ok rest)) ⊎ (expect wanted tokens ≡ unexpected tokens)
unfolding expect is_punctuation
expect_cases wanted [] = inr refl
expect_cases wanted (token.Punctuation found ∷ rest) =
    elim (punctuation_cases wanted found rest)
    [ inl both ↦ inl (rest, both.0, both.1) | inr e ↦ inr e ]
expect_cases wanted (token.Name x ∷ rest) = inr refl
expect_cases wanted (token.Number n ∷ rest) = inr refl
expect_cases wanted (token.StringLiteral t ∷ rest) = inr refl
expect_cases wanted (token.Keyword w ∷ rest) = inr refl

keyword_cases : (wanted found : Keyword) (rest : List TokenKind)
    → ((token.Keyword found ∷ rest ≡ token.Keyword wanted ∷ rest)
    × (expect_keyword wanted (token.Keyword found ∷ rest) ≡ Ok rest))
    ⊎ (expect_keyword wanted (token.Keyword found ∷ rest)
    ≡ unexpected (token.Keyword found ∷ rest))
unfolding expect_keyword is_keyword
keyword_cases wanted found rest =
    elim (cases_Bool (sameb keyword_type found wanted)) [
      | inl is ↦ inl (
        ap (λ (w : Keyword). token.Keyword w ∷ rest)
            (same_true keyword_type tt found wanted is),
        rw is refl,
      )
      | inr is ↦ inr (rw is refl)
    ]

pub expect_keyword_cases : (wanted : Keyword) (tokens : List TokenKind)
    → ((rest : List TokenKind) × (tokens ≡ token.Keyword wanted ∷ rest)
    × (expect_keyword wanted tokens ≡ Ok rest))
    ⊎ (expect_keyword wanted tokens ≡ unexpected tokens)
unfolding expect_keyword is_keyword
expect_keyword_cases wanted [] = inr refl
expect_keyword_cases wanted (token.Keyword found ∷ rest) =
    elim (keyword_cases wanted found rest) [ inl both ↦ inl (rest, both.0, both.1) | inr e ↦ inr e ]
expect_keyword_cases wanted (token.Name x ∷ rest) = inr refl
expect_keyword_cases wanted (token.Number n ∷ rest) = inr refl
expect_keyword_cases wanted (token.StringLiteral t ∷ rest) = inr refl
expect_keyword_cases wanted (token.Punctuation m ∷ rest) = inr refl

pub name_cases : (tokens : List TokenKind)
    → ((x : List ℕ) × (rest : List TokenKind) × (tokens ≡ token.Name x ∷ rest)
    × (name tokens ≡ Ok (x, rest))) ⊎ (name tokens ≡ unexpected tokens)
unfolding name
name_cases [] = inr refl
name_cases (token.Name x ∷ rest) = inl (x, rest, refl, refl)
name_cases (token.Punctuation found ∷ rest) = inr refl
name_cases (token.Number n ∷ rest) = inr refl
name_cases (token.StringLiteral t ∷ rest) = inr refl
name_cases (token.Keyword w ∷ rest) = inr refl

module _ {B : Type 0} (Q : B → Type 0) (deep : ℕ) (all : List TokenKind) where
  pub Sound-expect : (wanted : Punctuation) (tokens : List TokenKind)
      (f : List TokenKind → Result B Fault) → length tokens ≤ length all
      → ((rest : List TokenKind) → tokens ≡ token.Punctuation wanted ∷ rest
      → Sound Q deep all (f rest)) → Sound Q deep all (expect wanted tokens >>= f)
  Sound-expect wanted tokens f le then =
      elim (expect_cases wanted tokens) [
        | inl found ↦ subst (λ (r : Result (List TokenKind) Fault). Sound Q deep all (r >>= f))
            (sym found.2) (then found.0 found.1)
        | inr e ↦ subst (λ (r : Result (List TokenKind) Fault). Sound Q deep all (r >>= f))
            (sym e) le
      ]

  pub Sound-expect_keyword : (wanted : Keyword) (tokens : List TokenKind)
      (f : List TokenKind → Result B Fault) → length tokens ≤ length all
      → ((rest : List TokenKind) → tokens ≡ token.Keyword wanted ∷ rest → Sound Q deep all (f rest))
      → Sound Q deep all (expect_keyword wanted tokens >>= f)
  Sound-expect_keyword wanted tokens f le then =
      elim (expect_keyword_cases wanted tokens) [
        | inl found ↦ subst (λ (r : Result (List TokenKind) Fault). Sound Q deep all (r >>= f))
            (sym found.2) (then found.0 found.1)
        | inr e ↦ subst (λ (r : Result (List TokenKind) Fault). Sound Q deep all (r >>= f))
            (sym e) le
      ]

  pub Sound-name : (tokens : List TokenKind) (f : List ℕ × List TokenKind → Result B Fault)
      → length tokens ≤ length all
      → ((x : List ℕ) (rest : List TokenKind) → tokens ≡ token.Name x ∷ rest
      → Sound Q deep all (f (x, rest))) → Sound Q deep all (name tokens >>= f)
  Sound-name tokens f le then =
      elim (name_cases tokens) [
        | inl found ↦ subst (λ (r : Result (List ℕ × List TokenKind) Fault). Sound Q deep all
            (r >>= f)) (sym found.3) (then found.0 found.1 found.2)
        | inr e ↦ subst (λ (r : Result (List ℕ × List TokenKind) Fault). Sound Q deep all (r >>= f))
            (sym e) le
      ]

  pub Sound-raised : (depth height : ℕ) (f : ℕ → Result B Fault)
      → (height < depth → Sound Q deep all (f (height + 1))) → (depth ≤ height → deep ≤ length all)
      → Sound Q deep all (raised depth height >>= f)
  Sound-raised depth height f then room =
      elim (cases_lt height depth) [
        | inl lt ↦ subst (λ (r : Result ℕ Fault). Sound Q deep all (r >>= f))
            (sym (raised_low depth height lt)) (then lt)
        | inr le ↦ subst (λ (r : Result ℕ Fault). Sound Q deep all (r >>= f))
            (sym (raised_high depth height le)) (room le)
      ]

-- a punctuation mark that ends what is read
pub Sound-last : (deep : ℕ) (all : List TokenKind) (wanted : Punctuation) (tokens : List TokenKind)
    → length tokens ≤ length all → (P : List TokenKind → Type 0)
    → ((rest : List TokenKind) → tokens ≡ token.Punctuation wanted ∷ rest → P rest)
    → Sound P deep all (expect wanted tokens)
Sound-last deep all wanted tokens le P then =
    elim (expect_cases wanted tokens) [
      | inl found ↦ subst (λ (r : Result (List TokenKind) Fault). Sound P deep all r) (sym found.2)
          (then found.0 found.1)
      | inr e ↦ subst (λ (r : Result (List TokenKind) Fault). Sound P deep all r) (sym e) le
    ]

pub name_soundness : (deep : ℕ) (tokens : List TokenKind)
    → Sound (λ x. tokens ≡ token.Name x.0 ∷ x.1) deep tokens (name tokens)
unfolding name
name_soundness deep (token.Name x ∷ rest) = refl
name_soundness deep _ = omega arith

-- ---- loops

module _ {S : Type 0} (stop : List TokenKind → Option (List TokenKind))
    (turn : S → List TokenKind → Read S) (Kept : S → List TokenKind → Type 0) (deep : ℕ)
    (all : List TokenKind) where
  -- what a loop kept, where it stopped
  abbrev pub Stopped : S × List TokenKind → Type 0
  Stopped x = (end : List TokenKind) × Kept x.0 end × (stop end ≡ Some x.1)

  abbrev pub Turns : Type 0
  Turns = (so_far : S) (tokens : List TokenKind) → Kept so_far tokens → length tokens ≤ length all
      → stop tokens ≡ None
      → Sound (λ x. Kept x.0 x.1 × (length x.1 ≤ length all)) deep all (turn so_far tokens)

  repeated_by_soundness : (goes_on : S → List TokenKind → Read S)
      → ((so_far : S) (tokens : List TokenKind) → Kept so_far tokens → length tokens ≤ length all
      → Sound Stopped deep all (goes_on so_far tokens))
      → Turns → (so_far : S) (tokens : List TokenKind) → Kept so_far tokens
      → length tokens ≤ length all → (o : Option (List TokenKind)) → stop tokens ≡ o
      → Sound Stopped deep all (repeated_by turn goes_on so_far tokens o)
  repeated_by_soundness goes_on goes turns so_far tokens kept le None e =
      Sound-then (λ x. Kept x.0 x.1 × (length x.1 ≤ length all)) Stopped deep all
      (turn so_far tokens) _ (turns so_far tokens kept le e)
      (λ x next. goes x.0 x.1 next.0 next.1)
  repeated_by_soundness goes_on goes turns so_far tokens kept le (Some after) e = (tokens, kept, e)

  pub repeated_soundness : Turns → (n : ℕ) (so_far : S) (tokens : List TokenKind)
      → Kept so_far tokens → length tokens ≤ length all
      → Sound Stopped deep all (repeated stop turn n so_far tokens)
  unfolding repeated
  repeated_soundness turns zero so_far tokens kept le = le
  repeated_soundness turns (suc n) so_far tokens kept le =
      repeated_by_soundness (repeated stop turn n)
      (λ s rest k l. repeated_soundness turns n s rest k l) turns so_far tokens kept le
      (stop tokens) refl

-- a punctuation mark that comes first
pub punctuation_is : (wanted : Punctuation) (tokens : List TokenKind)
    → is_punctuation wanted tokens ≡ true → tokens ≡ token.Punctuation wanted ∷ tail tokens
unfolding is_punctuation
punctuation_is wanted [] e = absurd cc
punctuation_is wanted (token.Punctuation found ∷ rest) e =
    ap (λ (m : Punctuation). token.Punctuation m ∷ rest)
    (same_true punctuation_type tt found wanted e)
punctuation_is wanted (token.Name x ∷ rest) e = absurd cc
punctuation_is wanted (token.Number n ∷ rest) e = absurd cc
punctuation_is wanted (token.StringLiteral t ∷ rest) e = absurd cc
punctuation_is wanted (token.Keyword w ∷ rest) e = absurd cc

pub brace_is : (tokens after : List TokenKind) → brace tokens ≡ Some after
    → tokens ≡ token.Punctuation punctuation.CloseBrace ∷ after
unfolding brace
brace_is tokens after e =
    elim (cases_Bool (is_punctuation punctuation.CloseBrace tokens)) [
      | inl is ↦
          let taken : cond true (Some (tail tokens)) None ≡ Some after =
          subst (λ (b : Bool). cond b (Some (tail tokens)) None ≡ Some after) is e in
          let same : tail tokens ≡ after = cc in
          punctuation_is punctuation.CloseBrace tokens is
          ∙ ap (λ (ts : List TokenKind). token.Punctuation punctuation.CloseBrace ∷ ts) same
      | inr is ↦
          let left : cond false (Some (tail tokens)) None ≡ Some after =
          subst (λ (b : Bool). cond b (Some (tail tokens)) None ≡ Some after) is e in
          absurd cc
    ]

pub comma_is : (tokens : List TokenKind) → no_comma tokens ≡ None
    → tokens ≡ token.Punctuation punctuation.Comma ∷ tail tokens
unfolding no_comma
comma_is tokens e =
    elim (cases_Bool (is_punctuation punctuation.Comma tokens)) [
      | inl is ↦ punctuation_is punctuation.Comma tokens is
      | inr is ↦ let left : cond false None (Some tokens) ≡ None =
          subst (λ (b : Bool). cond b None (Some tokens) ≡ None) is e in absurd cc
    ]

pub no_comma_is : (tokens after : List TokenKind) → no_comma tokens ≡ Some after → tokens ≡ after
unfolding no_comma
no_comma_is tokens after e =
    elim (cases_Bool (is_punctuation punctuation.Comma tokens)) [
      | inl is ↦ let taken : cond true None (Some tokens) ≡ Some after =
          subst (λ (b : Bool). cond b None (Some tokens) ≡ Some after) is e in
          absurd cc
      | inr is ↦ let left : cond false None (Some tokens) ≡ Some after =
          subst (λ (b : Bool). cond b None (Some tokens) ≡ Some after) is e in cc
    ]

-- ---- lists that grow at their end

pub each_spelled-push : {A : Type 0} (spelled : A → List TokenKind → List TokenKind)
    (front : List A) (a : A) (rest : List TokenKind)
    → each_spelled spelled (front ++ a ∷ []) rest ≡ each_spelled spelled front (spelled a rest)
each_spelled-push spelled [] a rest = refl
each_spelled-push spelled (x ∷ front) a rest =
    ap (spelled x) (each_spelled-push spelled front a rest)

pub highest-push : {A : Type 0} (height_of : A → ℕ) (front : List A) (a : A)
    → highest height_of (front ++ a ∷ []) ≡ max (highest height_of front) (height_of a)
highest-push height_of [] a = omega arith
highest-push height_of (x ∷ front) a = let more = highest-push height_of front a in omega arith

pub All-push : {A : Type 0} (P : A → Type 0) (front : List A) (a : A) → AllByRecursion P front → P a
    → AllByRecursion P (front ++ a ∷ [])
All-push P [] a all p = (p, tt)
All-push P (x ∷ front) a all p = (all.0, All-push P front a all.1 p)
