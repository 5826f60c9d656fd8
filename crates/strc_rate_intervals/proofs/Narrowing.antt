-- Whole numbers that 32 bits hold.
use Rattle.std.proofs.Common.{◌≡◌, ◌^◌, ◌<◌, ℤ, pos, negsuc, arith, true, false, Bool, Option, Some}
use Rattle.std.proofs.Common.{None, cond, is_some, refl, sym, ap, ◌∙◌, subst}
use Rattle.std.specs.Int.RustNames.{FitsSigned}
use Rattle.std.proofs.lemmas.Bool.Decides.{Decides-int_eq}
use Rattle.std.proofs.lemmas.Int.{int_wrap_fits, SFits-int_wrap}
use lib.Signed.{lt_z}
use mir.Syntax.{w32}
use Rattle.strc_work_meaning.specs.Arithmetic.{wrapped}
use Rattle.strc_rate_intervals.specs.Loops.{within_32_bits}

-- 32 bits hold a number that fits them
pub within_fits : (value : ℤ) → FitsSigned w32 value → within_32_bits value ≡ true
within_fits value fits = (Decides-int_eq (wrapped value) value).1 (int_wrap_fits w32 value fits)

-- and no other
pub fits_within : (value : ℤ) → within_32_bits value ≡ true → FitsSigned w32 value
fits_within value h = subst (FitsSigned w32) ((Decides-int_eq (wrapped value) value).0 h)
    (SFits-int_wrap w32 value)

pub within_not : (value : ℤ) → (FitsSigned w32 value → ⊥) → within_32_bits value ≡ false
within_not value h = by_value (within_32_bits value) (λ e. h (fits_within value e))
  where
    by_value : (t : Bool) → (t ≡ true → ⊥) → t ≡ false
    by_value true h = absurd (h refl)
    by_value false h = refl

pub some_narrowed : (value : ℤ) → FitsSigned w32 value
    → Some value ≡ cond (within_32_bits value) (Some value) None
some_narrowed value fits = sym (ap (λ t. cond t (Some value) None) (within_fits value fits))

pub none_narrowed : (value : ℤ) → (FitsSigned w32 value → ⊥)
    → None ≡ cond (within_32_bits value) (Some value) None
none_narrowed value h = sym (ap (λ t. cond t (Some value) None) (within_not value h))

-- 32 bits hold what lies between their ends, and nothing past them
pub fits_between : (value : ℤ) → lt_z value (negsuc 2147483647) ≡ false
    → lt_z (pos 2147483647) value ≡ false → FitsSigned w32 value
fits_between (pos n) low high = let h : n < 2 ^ 31 = grind arith in record { sfits = h }
fits_between (negsuc n) low high = let h : n < 2 ^ 31 = grind arith in record { sfits = h }

pub too_low : (value : ℤ) → lt_z value (negsuc 2147483647) ≡ true → FitsSigned w32 value → ⊥
too_low (pos n) low fits = cc
too_low (negsuc n) low fits = let h : n < 2 ^ 31 = fits.sfits in grind arith

pub too_high : (value : ℤ) → lt_z (pos 2147483647) value ≡ true → FitsSigned w32 value → ⊥
too_high (pos n) high fits = let h : n < 2 ^ 31 = fits.sfits in grind arith
too_high (negsuc n) high fits = cc

-- what a test answered, by what was given
pub given_true : (t : Bool) (y : ℤ) (given : Option ℤ) → given ≡ cond t (Some y) None
    → is_some given ≡ true → t ≡ true
given_true true y given e some = refl
given_true false y given e some = sym (ap is_some e) ∙ some

pub given_value : (t : Bool) (x y : ℤ) → Some x ≡ cond t (Some y) None → x ≡ y
given_value true x y e = cc
given_value false x y e = cc
