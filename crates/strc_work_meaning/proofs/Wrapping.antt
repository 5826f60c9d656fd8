-- What Rust's wrapping division gives, in the words of the language.
use Rattle.std.proofs.Common.{◌≡◌, ℕ, zero, suc, ◌-◌, ◌/◌, ◌%◌, ◌^◌, ◌<◌, ◌≤◌, ℤ, pos, negsuc}
use Rattle.std.proofs.Common.{neg_ℤ, refl, sym, ap, arith, subst}
use Rattle.std.proofs.Math.Nat.{mod-eq_of_lt, div-le_self}
use Rattle.std.specs.Int.{int_wrap, cast_signed, cast_unsigned}
use Rattle.std.specs.Int.RustNames.{FitsSigned, int_div, unsigned_abs}
use mir.Syntax.{w32}

-- a number of at most 2^31 in size wraps as its bits do
pub bits_wrap : (z : ℤ) → unsigned_abs z ≤ 2 ^ 31
    → cast_signed w32 (cast_unsigned w32 z) ≡ int_wrap w32 z
unfolding int_wrap
bits_wrap (pos n) le =
    let small : n < 2 ^ 32 = omega arith in
    let e : n % 2 ^ 32 ≡ n = mod-eq_of_lt small in
    ap (cast_signed w32) (sym e)
bits_wrap (negsuc n) le =
    let small : n < 2 ^ 32 = omega arith in
    let e : n % 2 ^ 32 ≡ n = mod-eq_of_lt small in
    let bits : 2 ^ 32 - suc n ≡ 2 ^ 32 - 1 - n % 2 ^ 32 = omega arith in
    ap (cast_signed w32) bits

unsigned_abs-neg : (n : ℕ) → unsigned_abs (neg_ℤ (pos n)) ≡ n
unsigned_abs-neg zero = refl
unsigned_abs-neg (suc n) = refl

-- a quotient is no larger than its dividend
pub unsigned_abs-int_div : (a b : ℤ) → unsigned_abs (int_div a b) ≤ unsigned_abs a
unsigned_abs-int_div (pos a) (pos b) = div-le_self a b
unsigned_abs-int_div (pos a) (negsuc b) =
    subst (λ n. n ≤ a) (sym (unsigned_abs-neg (a / suc b))) (div-le_self a (suc b))
unsigned_abs-int_div (negsuc a) (pos b) =
    subst (λ n. n ≤ suc a) (sym (unsigned_abs-neg (suc a / b))) (div-le_self (suc a) b)
unsigned_abs-int_div (negsuc a) (negsuc b) = div-le_self (suc a) (suc b)

-- a number of 32 bits is at most 2^31 in size
pub unsigned_abs_fits : (z : ℤ) → FitsSigned w32 z → unsigned_abs z ≤ 2 ^ 31
unsigned_abs_fits (pos n) fits = let h : n < 2 ^ 31 = fits.sfits in omega arith
unsigned_abs_fits (negsuc n) fits = let h : n < 2 ^ 31 = fits.sfits in omega arith

-- the quotient of two numbers of 32 bits
pub quotient_wraps : (a b : ℤ) → FitsSigned w32 a
    → cast_signed w32 (cast_unsigned w32 (int_div a b)) ≡ int_wrap w32 (int_div a b)
quotient_wraps a b fits =
    let small : unsigned_abs (int_div a b) ≤ 2 ^ 31 =
    omega (arith, unsigned_abs-int_div a b, unsigned_abs_fits a fits) in
    bits_wrap (int_div a b) small
