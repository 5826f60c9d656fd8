-- Quotients and remainders, where a division by -1 is told apart.
use Rattle.std.proofs.Common.{◌≡◌, ◌∙◌, ap, sym, refl, arith, subst, ℕ, zero, suc, ◌/◌, ◌<◌, ◌≤◌}
use Rattle.std.proofs.Common.{ℤ, pos, negsuc, neg_ℤ, ◌-ℤ◌, ◌<ℤ◌, Bool, true, false, not, ◌&&◌}
use Rattle.std.proofs.Common.{Result, Ok, Err, if◌then◌else◌, div-le_self, ◌*◌}
use Rattle.std.proofs.Common.{div-mul-le_self, mul-le-mul_left}
use Rattle.std.proofs.Math.Nat.{div-one, mod-one}
use Rattle.std.proofs.lemmas.Bool.{lt-ltb, le-ltb, true≢false}
use Rattle.std.proofs.lemmas.Bool.Decides.{Decides-int_eq}
use Rattle.std.proofs.lemmas.Int.{int_wrap_fits, quot_fits, ints}
use Rattle.std.specs.Int.RustNames.{FitsSigned, int_div, int_rem}
use Rattle.std.specs.Ordering.{int_eq}
use mir.Syntax.{w32}
use Rattle.strc_parse_tree.specs.declared.tree.BinaryOperator.TheVariants as binary
use Rattle.strc_lex_names.specs.Results.{result_and_then}
use Rattle.strc_work_meaning.specs.Arithmetic.{binary_value, wrapped, is_true, truth}
use Rattle.strc_emit_c.specs.Meaning.{Stop, Undefined, defined}
use Rattle.strc_emit_operators.specs.Expressions.{Signed, Unsigned}
use Rattle.strc_emit_operators.specs.Meaning.{is_in_range, fitting, quotient, wrapped_in}
use Rattle.strc_emit_operators.proofs.Wrapping.{negation_wraps}

-- a number that fits is one of the type's
fits_in_range : (z : ℤ) → FitsSigned w32 z → is_in_range Signed z ≡ true
fits_in_range (pos n) fits = lt-ltb n 2147483648 fits.sfits
fits_in_range (negsuc n) fits =
    let small : n < 2147483648 = fits.sfits in
    ap (λ t. not t && true) (le-ltb 2147483647 n (omega arith))

-- so it stays where it has to fit
fitting_is : (z : ℤ) → FitsSigned w32 z → fitting Signed z ≡ Ok z
fitting_is z fits = ap (λ t. if t then Ok z else Err Undefined) (fits_in_range z fits)

-- a number of at most 2^31 - 1 in size fits, with either sign
negated_fits : (m : ℕ) → m < 2147483648 → FitsSigned w32 (neg_ℤ (pos m))
negated_fits zero small = record { sfits = omega arith }
negated_fits (suc m) small = record { sfits = omega arith }

above : (n : ℕ) → pos 0 <ℤ pos (suc n)
above n = omega (arith, ints)

-- a quotient by less than -1
by_less : (a : ℤ) (n : ℕ) → FitsSigned w32 a → FitsSigned w32 (int_div a (negsuc (suc n)))
by_less (pos a) n fits =
    let bound : a < 2147483648 = fits.sfits in
    negated_fits (a / suc (suc n)) (omega (arith, div-le_self a (suc (suc n))))
by_less (negsuc a) n fits =
    let bound : a < 2147483648 = fits.sfits in
    let q = suc a / suc (suc n) in
    let twice : q * 2 ≤ q * suc (suc n) = mul-le-mul_left q (omega arith) in
    record { sfits = omega (arith, div-mul-le_self (suc a) (suc (suc n))) }

-- by -1
by_minus_one : (a : ℤ) → neg_ℤ a ≡ int_div a (negsuc 0)
by_minus_one (pos n) = ap (λ m. neg_ℤ (pos m)) (sym (div-one n))
by_minus_one (negsuc n) = ap pos (sym (div-one (suc n)))

nothing_left : (a : ℤ) → pos 0 ≡ int_rem a (negsuc 0)
nothing_left (pos n) = ap pos (sym (mod-one n))
nothing_left (negsuc n) = ap (λ m. neg_ℤ (pos m)) (sym (mod-one (suc n)))

-- what a quotient is where the test has this truth value, and a remainder
abbrev pub divided : Bool → ℤ → ℤ → Result ℤ Stop
divided t a b =
    result_and_then (if is_true (truth t)
    then result_and_then (Ok (wrapped (wrapped_in Unsigned (pos 0 -ℤ wrapped_in Unsigned a))))
    (λ value. Ok value)
    else result_and_then (quotient Signed a b) (λ value. Ok value)) (λ value. Ok value)

abbrev pub left_over : Bool → ℤ → ℤ → Result ℤ Stop
left_over t a b =
    result_and_then (if is_true (truth t) then Ok (pos 0)
    else result_and_then (result_and_then (quotient Signed a b) (λ exists. Ok (int_rem a b)))
    (λ value. Ok value)) (λ value. Ok value)

-- a quotient that fits is that of the operator
quotient_fits : (a b : ℤ) → FitsSigned w32 (int_div a b)
    → fitting Signed (int_div a b) ≡ Ok (wrapped (int_div a b))
quotient_fits a b fits =
    fitting_is (int_div a b) fits ∙ ap Ok (sym (int_wrap_fits w32 (int_div a b) fits))

pub divided_is : (t : Bool) (a b : ℤ) → FitsSigned w32 a → int_eq b (negsuc 0) ≡ t
    → divided t a b ≡ defined (binary_value binary.Divide a b)
divided_is true a b fits e =
    subst (λ z. divided true a z ≡ defined (binary_value binary.Divide a z))
    (sym ((Decides-int_eq b (negsuc 0)).0 e))
    (ap Ok (negation_wraps a ∙ ap wrapped (by_minus_one a)))
divided_is false a (pos zero) fits e = refl
divided_is false a (pos (suc n)) fits e =
    ap (λ r. result_and_then (result_and_then r (λ value. Ok value)) (λ value. Ok value))
    (quotient_fits a (pos (suc n)) (quot_fits w32 a (pos (suc n)) fits (above n)))
divided_is false a (negsuc zero) fits e = absurd (true≢false e)
divided_is false a (negsuc (suc n)) fits e =
    ap (λ r. result_and_then (result_and_then r (λ value. Ok value)) (λ value. Ok value))
    (quotient_fits a (negsuc (suc n)) (by_less a n fits))

pub left_over_is : (t : Bool) (a b : ℤ) → FitsSigned w32 a → int_eq b (negsuc 0) ≡ t
    → left_over t a b ≡ defined (binary_value binary.Remainder a b)
left_over_is true a b fits e =
    subst (λ z. left_over true a z ≡ defined (binary_value binary.Remainder a z))
    (sym ((Decides-int_eq b (negsuc 0)).0 e)) (ap Ok (nothing_left a))
left_over_is false a (pos zero) fits e = refl
left_over_is false a (pos (suc n)) fits e =
    ap (λ r. result_and_then (result_and_then (result_and_then r
    (λ exists. Ok (int_rem a (pos (suc n))))) (λ value. Ok value)) (λ value. Ok value))
    (fitting_is _ (quot_fits w32 a (pos (suc n)) fits (above n)))
left_over_is false a (negsuc zero) fits e = absurd (true≢false e)
left_over_is false a (negsuc (suc n)) fits e =
    ap (λ r. result_and_then (result_and_then (result_and_then r
    (λ exists. Ok (int_rem a (negsuc (suc n))))) (λ value. Ok value)) (λ value. Ok value))
    (fitting_is _ (by_less a n fits))
