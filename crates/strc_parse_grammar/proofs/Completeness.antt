-- Reading a spelled tree again: it is read where its height is within the depth, and else nests too
-- deep.
use Rattle.std.proofs.Common.{◌≡◌, ℕ, suc, ◌+◌, ◌<◌, ◌≤◌, max, List, ◌∷◌, Result, Ok, Err, refl}
use Rattle.std.proofs.Common.{arith, inl, inr}
use Rattle.std.proofs.lemmas.Bool.{cases_lt, lt-ltb, le-ltb}
use denote.Enum.Bare.{true_same}
use Rattle.strc_lex.specs.contracts.token.Punctuation.{the_type as punctuation_type}
use Rattle.strc_lex.specs.contracts.token.Keyword.{the_type as keyword_type}
use Rattle.strc_lex.specs.declared.token.TokenKind.{TokenKind}
use Rattle.strc_lex.specs.declared.token.TokenKind.TheVariants as token
use Rattle.strc_lex.specs.declared.token.Keyword.{Keyword}
use Rattle.strc_lex.specs.declared.token.Punctuation.{Punctuation}
use Rattle.strc_parse_grammar.specs.declared.error.Fault.{Fault}
use Rattle.strc_parse_grammar.specs.declared.error.Fault.TheVariants.{Nesting}
use Rattle.strc_parse_grammar.specs.Reading.{◌>>=◌, is_punctuation, is_keyword, expect}
use Rattle.strc_parse_grammar.specs.Reading.{expect_keyword}
use Rattle.strc_parse_grammar.specs.Reading.{raised}

pub record Complete (depth height : ℕ) {X : Type 0} (x : X) (read : Result X Fault) : Type 0 where
  pub fits : height ≤ depth → read ≡ Ok x
  pub over : depth < height → read ≡ Err Nesting

-- a step after a tree that was read again
pub Complete-then : (depth height next : ℕ) {X Y : Type 0} (x : X) (y : Y) (read : Result X Fault)
    (f : X → Result Y Fault) → Complete depth height x read → height ≤ next
    → (height ≤ depth → Complete depth next y (f x)) → Complete depth next y (read >>= f)
Complete-then depth height next x y read f complete le then = record {
  fits = λ h. let low : height ≤ depth = omega arith in rw (complete.fits low) ((then low).fits h);
  over = λ h. elim (cases_lt depth height) [
    | inl lt ↦ rw (complete.over lt) refl
    | inr low ↦ rw (complete.fits low) ((then low).over h)
  ];
}

-- the same one depth below, for a part of a node
pub Complete-inside : (d height next : ℕ) {X Y : Type 0} (x : X) (y : Y) (read : Result X Fault)
    (f : X → Result Y Fault) → Complete d height x read → height + 1 ≤ next
    → (height ≤ d → Complete (suc d) next y (f x)) → Complete (suc d) next y (read >>= f)
Complete-inside d height next x y read f complete le then = record {
  fits = λ h. let low : height ≤ d = omega arith in rw (complete.fits low) ((then low).fits h);
  over = λ h. elim (cases_lt d height) [
    | inl lt ↦ rw (complete.over lt) refl
    | inr low ↦ rw (complete.fits low) ((then low).over h)
  ];
}

-- a leaf, which any depth above 0 has
pub Complete-leaf : (d : ℕ) {X : Type 0} (x : X) (read : Result X Fault) → read ≡ Ok x
    → Complete (suc d) 1 x read
Complete-leaf d x read e = record { fits = λ h. e; over = λ h. absurd (omega arith) }

pub expect_punctuation : (wanted : Punctuation) (rest : List TokenKind)
    → expect wanted (token.Punctuation wanted ∷ rest) ≡ Ok rest
unfolding expect is_punctuation
expect_punctuation wanted rest = rw (true_same punctuation_type wanted wanted refl) refl

pub expect_keyword_lem : (wanted : Keyword) (rest : List TokenKind)
    → expect_keyword wanted (token.Keyword wanted ∷ rest) ≡ Ok rest
unfolding expect_keyword is_keyword
expect_keyword_lem wanted rest = rw (true_same keyword_type wanted wanted refl) refl

pub raised_low : (depth height : ℕ) → height < depth → raised depth height ≡ Ok (height + 1)
unfolding raised
raised_low depth height lt = rw (lt-ltb height depth lt) refl

pub raised_high : (depth height : ℕ) → depth ≤ height → raised depth height ≡ Err Nesting
unfolding raised
raised_high depth height le = rw (le-ltb height depth le) refl

-- a node above a part that was read
pub Complete-raised : (depth height : ℕ) {Y : Type 0} (y : Y) (f : ℕ → Result Y Fault)
    → f (height + 1) ≡ Ok y → Complete depth (height + 1) y (raised depth height >>= f)
Complete-raised depth height y f e = record {
  fits = λ h. let lt : height < depth = omega arith in rw (raised_low depth height lt) e;
  over = λ h. let le : depth ≤ height = omega arith in rw (raised_high depth height le) refl;
}

-- the higher of two parts that were read
pub Complete-max : (d low high : ℕ) {Y : Type 0} (y : Y) (read : Result Y Fault) → low ≤ d →
    Complete d high y read → Complete d (max low high) y read
Complete-max d low high y read le complete = record
    { fits = λ h. complete.fits (omega arith); over = λ h. complete.over (omega arith) }

pub Complete-done : (d height : ℕ) {Y : Type 0} (y : Y) (read : Result Y Fault) → height ≤ d → read
    ≡ Ok y → Complete d height y read
Complete-done d height y read le e = record { fits = λ h. e; over = λ h. absurd (omega arith) }
