-- The functions of operators compute what operators mean.
use Rattle.std.proofs.Common.{◌≡◌, ap, refl, arith, zero, suc, ℤ, pos, negsuc}
use Rattle.std.proofs.Common.{[], ◌∷◌, Ok, Bool, true, false, unsigned_abs}
use Rattle.std.proofs.lemmas.Bool.Decides.{Decides-int_eq}
use Rattle.std.specs.Ordering.{int_eq}
use Rattle.std.specs.Int.RustNames.{FitsSigned}
use mir.Syntax.{w32}
use Rattle.strc_parse_tree.specs.declared.tree.UnaryOperator.{UnaryOperator}
use Rattle.strc_parse_tree.specs.declared.tree.UnaryOperator.TheVariants as unary
use Rattle.strc_parse_tree.specs.declared.tree.BinaryOperator.{BinaryOperator}
use Rattle.strc_parse_tree.specs.declared.tree.BinaryOperator.TheVariants as binary
use Rattle.strc_work_meaning.specs.Arithmetic.{unary_value, binary_value, truth, flipped}
use Rattle.strc_emit_c.specs.Spelling.{unary_name, binary_name}
use Rattle.strc_emit_c.specs.Meaning.{defined}
use Rattle.strc_emit_operators.specs.Laws.{operator_called}
use Rattle.strc_emit_operators.proofs.Wrapping.{sum_wraps, difference_wraps, product_wraps}
use Rattle.strc_emit_operators.proofs.Wrapping.{negation_wraps}
use Rattle.strc_emit_operators.proofs.Dividing.{divided_is, left_over_is}
use Rattle.strc_emit_operators.proofs.Shifting.{shifted_left_is, shifted_right_is}

-- numbers apart
differs : (x y : ℤ) → (x ≡ y → ⊥) → int_eq x y ≡ false
differs x y apart = by (int_eq x y) refl
  where
    by : (t : Bool) → int_eq x y ≡ t → int_eq x y ≡ false
    by true e = absurd (apart ((Decides-int_eq x y).0 e))
    by false e = e

flip_is : (a : ℤ) → truth (int_eq a (pos 0)) ≡ flipped a
flip_is (pos zero) = refl
flip_is (pos (suc n)) =
    let apart : pos (suc n) ≡ pos 0 → ⊥ =
    λ e. let same : suc n ≡ 0 = ap unsigned_abs e in omega arith in
    ap truth (differs (pos (suc n)) (pos 0) apart)
flip_is (negsuc n) = refl

pub unary_computes : (operator : UnaryOperator) (a : ℤ) → FitsSigned w32 a
    → operator_called (unary_name operator) (a ∷ []) ≡ Ok (unary_value operator a)
unary_computes unary.Negate a fits = ap Ok (negation_wraps a)
unary_computes unary.Not a fits = ap Ok (flip_is a)
unary_computes unary.Complement a fits = refl

pub binary_computes : (operator : BinaryOperator) (a b : ℤ) → FitsSigned w32 a → FitsSigned w32 b
    → operator_called (binary_name operator) (a ∷ b ∷ []) ≡ defined (binary_value operator a b)
binary_computes binary.LogicalOr a b fits fits' = refl
binary_computes binary.LogicalAnd a b fits fits' = refl
binary_computes binary.Or a b fits fits' = refl
binary_computes binary.ExclusiveOr a b fits fits' = refl
binary_computes binary.And a b fits fits' = refl
binary_computes binary.Equal a b fits fits' = refl
binary_computes binary.NotEqual a b fits fits' = refl
binary_computes binary.Less a b fits fits' = refl
binary_computes binary.LessOrEqual a b fits fits' = refl
binary_computes binary.Greater a b fits fits' = refl
binary_computes binary.GreaterOrEqual a b fits fits' = refl
binary_computes binary.ShiftLeft a b fits fits' = shifted_left_is a b fits fits'
binary_computes binary.ShiftRight a b fits fits' = shifted_right_is a b fits'
binary_computes binary.Add a b fits fits' = ap Ok (sum_wraps a b)
binary_computes binary.Subtract a b fits fits' = ap Ok (difference_wraps a b)
binary_computes binary.Multiply a b fits fits' = ap Ok (product_wraps a b)
binary_computes binary.Divide a b fits fits' =
    divided_is (int_eq b (negsuc 0)) a b fits refl
binary_computes binary.Remainder a b fits fits' =
    left_over_is (int_eq b (negsuc 0)) a b fits refl
