-- Numbers that were made unsigned, and are made signed again.
use Rattle.std.proofs.Common.{◌≡◌, ◌∙◌, ap, sym, arith, ℕ, ◌-◌, ◌*◌}
use Rattle.std.proofs.Common.{◌%◌, ◌^◌, ◌<◌, ℤ, pos, negsuc, neg_ℤ, ◌+ℤ◌, ◌-ℤ◌, ◌*ℤ◌}
use Rattle.std.proofs.Common.{mod-eq_of_lt, mod-lt}
use Rattle.std.proofs.Math.Nat.{mod-mod}
use Rattle.std.proofs.Math.IntN.{+ℤ_idl}
use Rattle.std.proofs.lemmas.Int.{int_wrap-add_same, int_wrap-add_right}
use Rattle.std.proofs.lemmas.Int.{int_wrap-sub_right, int_wrap-mul_left, int_wrap-mul_right}
use Rattle.std.specs.Int.{int_wrap, cast_signed, cast_unsigned}
use Rattle.std.specs.Int.RustNames.{FitsSigned}
use mir.Syntax.{w32}
use Rattle.strc_work_meaning.specs.Arithmetic.{wrapped}
use Rattle.strc_emit_operators.specs.Expressions.{Unsigned}
use Rattle.strc_emit_operators.specs.Meaning.{wrapped_in}

-- a number that was made unsigned is a multiple of 2^32 away
pub wrapped-wrapped_in : (z : ℤ) → wrapped (wrapped_in Unsigned z) ≡ wrapped z
unfolding int_wrap
wrapped-wrapped_in (pos n) = ap (cast_signed w32) (mod-mod n (2 ^ 32))
wrapped-wrapped_in (negsuc n) =
    let some : 0 < 2 ^ 32 = omega arith in
    let small : n % 2 ^ 32 < 2 ^ 32 = mod-lt n some in
    let e : (2 ^ 32 - 1 - n % 2 ^ 32) % 2 ^ 32 ≡ 2 ^ 32 - 1 - n % 2 ^ 32 =
    mod-eq_of_lt (omega arith) in
    ap (cast_signed w32) e

-- the bits of a number of 32 bits
pub wrapped_in_is : (z : ℤ) → FitsSigned w32 z → wrapped_in Unsigned z ≡ pos (cast_unsigned w32 z)
wrapped_in_is (pos n) fits =
    let small : n < 2 ^ 31 = fits.sfits in
    ap pos (mod-eq_of_lt (omega arith))
wrapped_in_is (negsuc n) fits =
    let small : n < 2 ^ 31 = fits.sfits in
    let e : n % 2 ^ 32 ≡ n = mod-eq_of_lt (omega arith) in
    ap pos (omega arith)

-- unsigned arithmetic
pub sum_wraps : (x y : ℤ)
    → wrapped (wrapped_in Unsigned (wrapped_in Unsigned x +ℤ wrapped_in Unsigned y))
    ≡ wrapped (x +ℤ y)
sum_wraps x y =
    wrapped-wrapped_in (wrapped_in Unsigned x +ℤ wrapped_in Unsigned y)
    ∙ int_wrap-add_same w32 (wrapped_in Unsigned x) x (wrapped_in Unsigned y) (wrapped-wrapped_in x)
    ∙ sym (int_wrap-add_right w32 x (wrapped_in Unsigned y))
    ∙ ap (λ z. int_wrap w32 (x +ℤ z)) (wrapped-wrapped_in y) ∙ int_wrap-add_right w32 x y

pub difference_wraps : (x y : ℤ)
    → wrapped (wrapped_in Unsigned (wrapped_in Unsigned x -ℤ wrapped_in Unsigned y))
    ≡ wrapped (x -ℤ y)
difference_wraps x y =
    wrapped-wrapped_in (wrapped_in Unsigned x -ℤ wrapped_in Unsigned y)
    ∙ sym (int_wrap-sub_right w32 (wrapped_in Unsigned x) (wrapped_in Unsigned y))
    ∙ ap (λ z. int_wrap w32 (wrapped_in Unsigned x -ℤ z)) (wrapped-wrapped_in y)
    ∙ int_wrap-sub_right w32 (wrapped_in Unsigned x) y
    ∙ int_wrap-add_same w32 (wrapped_in Unsigned x) x (neg_ℤ y) (wrapped-wrapped_in x)

pub product_wraps : (x y : ℤ)
    → wrapped (wrapped_in Unsigned (wrapped_in Unsigned x *ℤ wrapped_in Unsigned y))
    ≡ wrapped (x *ℤ y)
product_wraps x y =
    wrapped-wrapped_in (wrapped_in Unsigned x *ℤ wrapped_in Unsigned y)
    ∙ sym (int_wrap-mul_left w32 (wrapped_in Unsigned x) (wrapped_in Unsigned y))
    ∙ ap (λ z. int_wrap w32 (z *ℤ wrapped_in Unsigned y)) (wrapped-wrapped_in x)
    ∙ int_wrap-mul_left w32 x (wrapped_in Unsigned y)
    ∙ sym (int_wrap-mul_right w32 x (wrapped_in Unsigned y))
    ∙ ap (λ z. int_wrap w32 (x *ℤ z)) (wrapped-wrapped_in y) ∙ int_wrap-mul_right w32 x y

pub negation_wraps : (x : ℤ)
    → wrapped (wrapped_in Unsigned (pos 0 -ℤ wrapped_in Unsigned x)) ≡ wrapped (neg_ℤ x)
negation_wraps x =
    wrapped-wrapped_in (pos 0 -ℤ wrapped_in Unsigned x)
    ∙ sym (int_wrap-sub_right w32 (pos 0) (wrapped_in Unsigned x))
    ∙ ap (λ z. int_wrap w32 (pos 0 -ℤ z)) (wrapped-wrapped_in x)
    ∙ int_wrap-sub_right w32 (pos 0) x ∙ ap (int_wrap w32) (+ℤ_idl (neg_ℤ x))

-- what is made unsigned, and shifted to the left
pub shift_wraps : (bits factor : ℕ)
    → wrapped (wrapped_in Unsigned (pos bits *ℤ pos factor))
    ≡ cast_signed w32 ((bits * factor) % 2 ^ 32)
unfolding int_wrap
shift_wraps bits factor = wrapped-wrapped_in (pos (bits * factor))
