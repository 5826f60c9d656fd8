-- Shifts by the low five bits of a count.
use Rattle.std.proofs.Common.{◌≡◌, ◌∙◌, ap, arith, ℕ, ◌^◌, ◌<◌, ℤ, pos}
use Rattle.std.proofs.Common.{Result, Ok, Err, if◌then◌else◌, bit_and, mod-lt}
use Rattle.std.proofs.lemmas.Bool.{lt-ltb}
use Rattle.std.proofs.lemmas.Nat.{and_mask}
use Rattle.std.specs.Int.{cast_unsigned, int_shl, int_shr}
use Rattle.std.specs.Int.RustNames.{FitsSigned}
use mir.Syntax.{w32}
use Rattle.strc_lex_names.specs.Results.{result_and_then}
use Rattle.strc_work_meaning.specs.Arithmetic.{wrapped, shift_of}
use Rattle.strc_emit_c.specs.Meaning.{Stop, Undefined}
use Rattle.strc_emit_operators.specs.Expressions.{Signed, Unsigned, Left, Right}
use Rattle.strc_emit_operators.specs.Meaning.{wrapped_in, count_of, shifted}
use Rattle.strc_emit_operators.proofs.Wrapping.{wrapped_in_is, shift_wraps}

-- the low five bits
low_is : (b : ℤ) → FitsSigned w32 b
    → bit_and (cast_unsigned w32 (wrapped_in Unsigned b)) 31 ≡ shift_of b
low_is b fits =
    ap (λ z. bit_and (cast_unsigned w32 z) 31) (wrapped_in_is b fits)
    ∙ and_mask (cast_unsigned w32 b) 5

-- are a count
counted : (b : ℤ) → FitsSigned w32 b
    → count_of (pos (bit_and (cast_unsigned w32 (wrapped_in Unsigned b)) 31)) ≡ Ok (shift_of b)
counted b fits =
    let some : 0 < 32 = omega arith in
    let small : shift_of b < 32 = mod-lt (cast_unsigned w32 b) some in
    ap (λ k. count_of (pos k)) (low_is b fits)
    ∙ ap (λ t. if t then Ok (shift_of b) else Err Undefined) (lt-ltb (shift_of b) 32 small)

pub shifted_right_is : (a b : ℤ) → FitsSigned w32 b
    → result_and_then (result_and_then
    (count_of (pos (bit_and (cast_unsigned w32 (wrapped_in Unsigned b)) 31)))
    (shifted Right Signed a)) (λ value. Ok value)
    ≡ Ok (int_shr a (shift_of b))
shifted_right_is a b fits =
    ap (λ r. result_and_then (result_and_then r (shifted Right Signed a)) (λ value. Ok value))
    (counted b fits)

-- what is shifted to the left, as a number of 32 bits
abbrev left_of : Result ℕ Stop → ℤ → Result ℤ Stop
left_of count value =
    result_and_then (result_and_then (result_and_then count (shifted Left Unsigned value))
    (λ number. Ok (wrapped number))) (λ number. Ok number)

pub shifted_left_is : (a b : ℤ) → FitsSigned w32 a → FitsSigned w32 b
    → result_and_then (result_and_then (result_and_then
    (count_of (pos (bit_and (cast_unsigned w32 (wrapped_in Unsigned b)) 31)))
    (shifted Left Unsigned (wrapped_in Unsigned a))) (λ number. Ok (wrapped number)))
    (λ number. Ok number)
    ≡ Ok (int_shl w32 a (shift_of b))
shifted_left_is a b fits fits' =
    ap (λ r. left_of r (wrapped_in Unsigned a)) (counted b fits')
    ∙ ap (left_of (Ok (shift_of b))) (wrapped_in_is a fits)
    ∙ ap Ok (shift_wraps (cast_unsigned w32 a) (2 ^ shift_of b))
