-- What these expressions are worth, as C11 says.
use Rattle.std.specs.Prelude.{ℕ, ◌^◌, ◌==◌, ℤ, pos, negsuc, zero, neg_ℤ, ◌+ℤ◌, ◌-ℤ◌, ◌*ℤ◌}
use Rattle.std.specs.Prelude.{Bool, ◌&&◌, not, List, [], ◌∷◌, length, bytes_eq}
use Rattle.std.specs.Prelude.{Option, Some, None, Result, Ok, Err, slice_get, nat_lt}
use Rattle.std.specs.Prelude.{if◌then◌else◌}
use Rattle.std.specs.Int.{cast_signed, cast_unsigned, bit_not, int_rem_euclid, int_shr}
use Rattle.std.specs.Int.RustNames.{bit_and, bit_or, bit_xor, int_div, int_rem, int_lt}
use Rattle.std.specs.Ordering.{int_eq}
use mir.Syntax.{w32}
use Rattle.strc_lex_names.specs.Results.{result_and_then}
use Rattle.strc_work_meaning.specs.Arithmetic.{wrapped, truth, is_true}
use Rattle.strc_emit_c.specs.Meaning.{Stop, Undefined}
use Rattle.strc_emit_operators.specs.Expressions.{NumberType, Signed, Unsigned, Arithmetic, Plus}
use Rattle.strc_emit_operators.specs.Expressions.{Minus, Times, Over, Modulo, BitOr, BitXor, BitAnd}
use Rattle.strc_emit_operators.specs.Expressions.{Shift, Left, Right, Comparison, Equal, NotEqual}
use Rattle.strc_emit_operators.specs.Expressions.{Less, LessOrEqual, Greater, GreaterOrEqual}
use Rattle.strc_emit_operators.specs.Expressions.{Expression, Parameter, Literal, Cast, Negative}
use Rattle.strc_emit_operators.specs.Expressions.{Inverted, Calculated, Shifted, Compared}
use Rattle.strc_emit_operators.specs.Expressions.{Conditional, Comma, Call, Function}

-- whether a type has a number: int32_t those from -2^31 to 2^31 - 1
abbrev pub is_in_range : NumberType → ℤ → Bool
is_in_range Signed value = not (int_lt value (negsuc 2147483647)) && int_lt value (pos 2147483648)
is_in_range Unsigned value = not (int_lt value (pos 0)) && int_lt value (pos 4294967296)

-- the type's number that is a multiple of 2^32 away: so C defines a conversion to uint32_t. That of
-- a number that doesn't fit to int32_t it leaves to the implementation, and GCC and clang define it
-- so
abbrev pub wrapped_in : NumberType → ℤ → ℤ
wrapped_in Signed value = wrapped value
wrapped_in Unsigned value = int_rem_euclid value (pos (2 ^ 32))

-- a number of one type in another one
abbrev pub converted : (from to : NumberType) → ℤ → ℤ
converted Signed Signed value = value
converted Unsigned Unsigned value = value
converted from to value = wrapped_in to value

-- a number that has to fit
abbrev pub fitting : NumberType → ℤ → Result ℤ Stop
fitting type value = if is_in_range type value then Ok value else Err Undefined

-- what arithmetic gives: unsigned it never overflows, signed an overflow is undefined
abbrev pub result_in : NumberType → ℤ → Result ℤ Stop
result_in Signed value = fitting Signed value
result_in Unsigned value = Ok (wrapped_in Unsigned value)

-- a quotient is rounded towards 0; there is none by 0, and none that doesn't fit
abbrev pub quotient : NumberType → ℤ → ℤ → Result ℤ Stop
quotient type dividend (pos zero) = Err Undefined
quotient type dividend divisor = fitting type (int_div dividend divisor)

-- the bits of a number in two's complement, and the number of bits
abbrev pub bits_of : ℤ → ℕ
bits_of value = cast_unsigned w32 value

abbrev pub number_of : NumberType → (bits : ℕ) → ℤ
number_of Signed bits = cast_signed w32 bits
number_of Unsigned bits = pos bits

-- an operation on two numbers of a type; there is a remainder only where there is a quotient
abbrev pub calculated : Arithmetic → NumberType → ℤ → ℤ → Result ℤ Stop
calculated Plus type left right = result_in type (left +ℤ right)
calculated Minus type left right = result_in type (left -ℤ right)
calculated Times type left right = result_in type (left *ℤ right)
calculated Over type left right = quotient type left right
calculated Modulo type left right =
    result_and_then (quotient type left right) (λ exists. Ok (int_rem left right))
calculated BitOr type left right = Ok (number_of type (bit_or (bits_of left) (bits_of right)))
calculated BitXor type left right = Ok (number_of type (bit_xor (bits_of left) (bits_of right)))
calculated BitAnd type left right = Ok (number_of type (bit_and (bits_of left) (bits_of right)))

-- by how many bits a shift moves: a count below 0, or of all 32 bits, is undefined
abbrev pub count_of : ℤ → Result ℕ Stop
count_of (pos count) = if nat_lt count 32 then Ok count else Err Undefined
count_of (negsuc count) = Err Undefined

-- a number of a type that is shifted. To shift a negative number left is undefined; to the right C
-- leaves it to the implementation, and GCC and clang keep the sign
abbrev pub shifted : Shift → NumberType → ℤ → (count : ℕ) → Result ℤ Stop
shifted Left type (pos value) count = result_in type (pos value *ℤ pos (2 ^ count))
shifted Left type (negsuc value) count = Err Undefined
shifted Right type value count = Ok (int_shr value count)

abbrev pub compared : Comparison → ℤ → ℤ → Bool
compared Equal left right = int_eq left right
compared NotEqual left right = not (int_eq left right)
compared Less left right = int_lt left right
compared LessOrEqual left right = not (int_lt right left)
compared Greater left right = int_lt right left
compared GreaterOrEqual left right = not (int_lt left right)

-- the type in which two operands meet: an unsigned one makes the other one unsigned
abbrev pub common : NumberType → NumberType → NumberType
common Signed Signed = Signed
common one other = Unsigned

-- the type of an expression
abbrev pub type_of : Expression → NumberType
type_of (Parameter number) = Signed
type_of (Literal type value) = type
type_of (Cast type operand) = type
type_of (Negative operand) = type_of operand
type_of (Inverted operand) = type_of operand
type_of (Calculated operator left right) = common (type_of left) (type_of right)
type_of (Shifted shift value count) = type_of value
type_of (Compared comparison left right) = Signed
type_of (Conditional test chosen other) = common (type_of chosen) (type_of other)
type_of (Comma left right) = type_of right
type_of (Call name argument) = Signed

-- what calls of functions by their names return
abbrev pub Calls : Type 0
Calls = (name : List ℕ) → (arguments : List ℤ) → Result ℤ Stop

-- the argument of a parameter
abbrev pub argument_of : Option ℤ → Result ℤ Stop
argument_of (Some value) = Ok value
argument_of None = Err Undefined

-- the value of an expression; of a conditional only one branch is computed
abbrev pub value_of : Calls → (arguments : List ℤ) → Expression → Result ℤ Stop
value_of calls arguments (Parameter number) = argument_of (slice_get arguments number)
value_of calls arguments (Literal type value) = fitting type (pos value)
value_of calls arguments (Cast type operand) =
    result_and_then (value_of calls arguments operand) (λ value.
    Ok (converted (type_of operand) type value))
value_of calls arguments (Negative operand) =
    result_and_then (value_of calls arguments operand) (λ value.
    result_in (type_of operand) (neg_ℤ value))
value_of calls arguments (Inverted operand) =
    result_and_then (value_of calls arguments operand) (λ value.
    Ok (number_of (type_of operand) (bit_not w32 (bits_of value))))
value_of calls arguments (Calculated operator left right) =
    let type = common (type_of left) (type_of right) in
    result_and_then (value_of calls arguments left) (λ one.
    result_and_then (value_of calls arguments right) (λ other.
    calculated operator type (converted (type_of left) type one)
    (converted (type_of right) type other)))
value_of calls arguments (Shifted shift value count) =
    result_and_then (value_of calls arguments value) (λ number.
    result_and_then (value_of calls arguments count) (λ by.
    result_and_then (count_of by) (shifted shift (type_of value) number)))
value_of calls arguments (Compared comparison left right) =
    let type = common (type_of left) (type_of right) in
    result_and_then (value_of calls arguments left) (λ one.
    result_and_then (value_of calls arguments right) (λ other.
    Ok (truth (compared comparison (converted (type_of left) type one)
    (converted (type_of right) type other)))))
value_of calls arguments (Conditional test chosen other) =
    let type = common (type_of chosen) (type_of other) in
    result_and_then (value_of calls arguments test) (λ number.
    if is_true number
    then result_and_then (value_of calls arguments chosen) (λ value.
    Ok (converted (type_of chosen) type value))
    else result_and_then (value_of calls arguments other) (λ value.
    Ok (converted (type_of other) type value)))
value_of calls arguments (Comma left right) =
    result_and_then (value_of calls arguments left) (λ dropped. value_of calls arguments right)
value_of calls arguments (Call name argument) =
    result_and_then (value_of calls arguments argument) (λ value.
    calls name (converted (type_of argument) Signed value ∷ []))

-- what a function returns
abbrev pub returned : Calls → (arguments : List ℤ) → (body : Expression) → Result ℤ Stop
returned calls arguments body =
    result_and_then (value_of calls arguments body) (λ value.
    Ok (converted (type_of body) Signed value))

-- before any function there is none to call
abbrev pub no_calls : Calls
no_calls name arguments = Err Undefined

-- calls after one more function, which itself can call those above it
abbrev pub calls_with : Calls → Function → Calls
calls_with above function name arguments =
    if bytes_eq name function.name && length arguments == function.parameters
    then returned above arguments function.body else above name arguments

-- calls after functions one below another
abbrev pub calls_after : Calls → List Function → Calls
calls_after above [] = above
calls_after above (function ∷ rest) = calls_after (calls_with above function) rest
