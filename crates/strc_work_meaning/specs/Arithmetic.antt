-- Operations on numbers of 32 bits.
use Rattle.std.specs.Prelude.{ℕ, ◌%◌, ℤ, pos, zero, neg_ℤ, ◌+ℤ◌, ◌-ℤ◌, ◌*ℤ◌, Bool, true, false, not}
use Rattle.std.specs.Prelude.{Result, Ok, Err}
use Rattle.std.specs.Int.{int_wrap, int_bit_and, int_bit_or, int_bit_xor, int_bit_not, int_shl}
use Rattle.std.specs.Int.{int_shr, cast_unsigned}
use Rattle.std.specs.Int.RustNames.{int_div, int_rem, int_lt}
use Rattle.std.specs.Ordering.{int_eq}
use mir.Syntax.{w32}
use Rattle.strc_parse_tree.specs.declared.tree.UnaryOperator.{UnaryOperator}
use Rattle.strc_parse_tree.specs.declared.tree.UnaryOperator.TheVariants as unary
use Rattle.strc_parse_tree.specs.declared.tree.BinaryOperator.{BinaryOperator}
use Rattle.strc_parse_tree.specs.declared.tree.BinaryOperator.TheVariants as binary
use Rattle.strc_work_meaning.specs.declared.fault.Cause.{Cause}
use Rattle.strc_work_meaning.specs.declared.fault.Cause.TheVariants.{DivZero}

-- a whole number, brought into 32 bits by adding a multiple of 2^32
abbrev pub wrapped : ℤ → ℤ
wrapped value = int_wrap w32 value

-- rounded towards 0; the minimum by -1 wraps to the minimum
abbrev pub quotient : ℤ → ℤ → ℤ
quotient dividend divisor = wrapped (int_div dividend divisor)

-- what is left of the dividend, with its sign
abbrev pub remainder : ℤ → ℤ → ℤ
remainder dividend divisor = int_rem dividend divisor

-- the low five bits of a shift's count
abbrev pub shift_of : ℤ → ℕ
shift_of count = cast_unsigned w32 count % 32

-- moved towards the higher bits, of which those past 32 are lost
abbrev pub shifted_left : ℤ → ℤ → ℤ
shifted_left value count = int_shl w32 value (shift_of count)

-- moved towards the lower bits, and the sign stays
abbrev pub shifted_right : ℤ → ℤ → ℤ
shifted_right value count = int_shr value (shift_of count)

-- a truth value, 0 or 1, negated
abbrev pub flipped : ℤ → ℤ
flipped (pos zero) = pos 1
flipped _ = pos 0

-- the number of a truth value
abbrev pub truth : Bool → ℤ
truth true = pos 1
truth false = pos 0

-- whether a truth value's number is that of `true`
abbrev pub is_true : ℤ → Bool
is_true (pos zero) = false
is_true _ = true

-- a dividing operation, which faults at a divisor 0
abbrev pub unless_zero : ℤ → ℤ → Result ℤ Cause
unless_zero (pos zero) value = Err DivZero
unless_zero _ value = Ok value

-- the value of an operator before its operand
abbrev pub unary_value : UnaryOperator → ℤ → ℤ
unary_value unary.Negate value = wrapped (neg_ℤ value)
unary_value unary.Not value = flipped value
unary_value unary.Complement value = int_bit_not w32 value

-- the value of an operator between its operands where both count, or its fault; truth values are 0
-- and 1. A left side of `||` or `&&` that doesn't decide leaves the value to the right one
abbrev pub binary_value : BinaryOperator → ℤ → ℤ → Result ℤ Cause
binary_value binary.LogicalOr left right = Ok right
binary_value binary.LogicalAnd left right = Ok right
binary_value binary.Or left right = Ok (int_bit_or w32 left right)
binary_value binary.ExclusiveOr left right = Ok (int_bit_xor w32 left right)
binary_value binary.And left right = Ok (int_bit_and w32 left right)
binary_value binary.Equal left right = Ok (truth (int_eq left right))
binary_value binary.NotEqual left right = Ok (truth (not (int_eq left right)))
binary_value binary.Less left right = Ok (truth (int_lt left right))
binary_value binary.LessOrEqual left right = Ok (truth (not (int_lt right left)))
binary_value binary.Greater left right = Ok (truth (int_lt right left))
binary_value binary.GreaterOrEqual left right = Ok (truth (not (int_lt left right)))
binary_value binary.ShiftLeft left right = Ok (shifted_left left right)
binary_value binary.ShiftRight left right = Ok (shifted_right left right)
binary_value binary.Add left right = Ok (wrapped (left +ℤ right))
binary_value binary.Subtract left right = Ok (wrapped (left -ℤ right))
binary_value binary.Multiply left right = Ok (wrapped (left *ℤ right))
binary_value binary.Divide left right = unless_zero right (quotient left right)
binary_value binary.Remainder left right = unless_zero right (remainder left right)
