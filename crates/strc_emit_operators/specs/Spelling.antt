-- The text of the functions of operators.
use Rattle.std.specs.Prelude.{ℕ, zero, suc, ◌+◌, List, [], ◌∷◌, ◌++◌, codes, decimal, length}
use Rattle.std.specs.Prelude.{nat_le, if◌then◌else◌}
use Rattle.strc_emit_operators.specs.Expressions.{NumberType, Signed, Unsigned, Arithmetic, Plus}
use Rattle.strc_emit_operators.specs.Expressions.{Minus, Times, Over, Modulo, BitOr, BitXor, BitAnd}
use Rattle.strc_emit_operators.specs.Expressions.{Shift, Left, Right, Comparison, Equal, NotEqual}
use Rattle.strc_emit_operators.specs.Expressions.{Less, LessOrEqual, Greater, GreaterOrEqual}
use Rattle.strc_emit_operators.specs.Expressions.{Expression, Parameter, Literal, Cast, Negative}
use Rattle.strc_emit_operators.specs.Expressions.{Inverted, Calculated, Shifted, Compared}
use Rattle.strc_emit_operators.specs.Expressions.{Conditional, Comma, Call, Function}
use Rattle.strc_emit_operators.specs.Operators.{functions}

-- `a` and `b`
abbrev pub parameter_name : (number : ℕ) → List ℕ
parameter_name number = (97 + number) ∷ []

abbrev pub type_name : NumberType → List ℕ
type_name Signed = codes "int32_t"
type_name Unsigned = codes "uint32_t"

abbrev pub literal_text : NumberType → (value : ℕ) → List ℕ
literal_text Signed value = decimal value
literal_text Unsigned value = decimal value ++ codes "u"

abbrev pub arithmetic_sign : Arithmetic → List ℕ
arithmetic_sign Plus = codes " + "
arithmetic_sign Minus = codes " - "
arithmetic_sign Times = codes " * "
arithmetic_sign Over = codes " / "
arithmetic_sign Modulo = codes " % "
arithmetic_sign BitOr = codes " | "
arithmetic_sign BitXor = codes " ^ "
arithmetic_sign BitAnd = codes " & "

abbrev pub shift_sign : Shift → List ℕ
shift_sign Left = codes " << "
shift_sign Right = codes " >> "

abbrev pub comparison_sign : Comparison → List ℕ
comparison_sign Equal = codes " == "
comparison_sign NotEqual = codes " != "
comparison_sign Less = codes " < "
comparison_sign LessOrEqual = codes " <= "
comparison_sign Greater = codes " > "
comparison_sign GreaterOrEqual = codes " >= "

-- the precedence of an expression, of which 0 is the highest. The operators between two operands
-- have one, since none of them is in another one without parentheses
abbrev pub precedence : Expression → ℕ
precedence (Parameter number) = 0
precedence (Literal type value) = 0
precedence (Call name argument) = 0
precedence (Cast type operand) = 1
precedence (Negative operand) = 1
precedence (Inverted operand) = 1
precedence (Calculated operator left right) = 2
precedence (Shifted shift value count) = 2
precedence (Compared comparison left right) = 2
precedence (Conditional test chosen other) = 3
precedence (Comma left right) = 4

-- the text of an expression, in parentheses where its precedence is lower than its place wants
abbrev pub within : (lowest : ℕ) → Expression → List ℕ → List ℕ
within lowest expression text =
    if nat_le (precedence expression) lowest then text else codes "(" ++ text ++ codes ")"

abbrev pub expression_text : Expression → List ℕ
expression_text (Parameter number) = parameter_name number
expression_text (Literal type value) = literal_text type value
expression_text (Cast type operand) =
    codes "(" ++ type_name type ++ codes ")" ++ within 0 operand (expression_text operand)
expression_text (Negative operand) = codes "-" ++ within 0 operand (expression_text operand)
expression_text (Inverted operand) = codes "~" ++ within 0 operand (expression_text operand)
expression_text (Calculated operator left right) =
    within 1 left (expression_text left) ++ arithmetic_sign operator
    ++ within 1 right (expression_text right)
expression_text (Shifted shift value count) =
    within 1 value (expression_text value) ++ shift_sign shift
    ++ within 1 count (expression_text count)
expression_text (Compared comparison left right) =
    within 1 left (expression_text left) ++ comparison_sign comparison
    ++ within 1 right (expression_text right)
expression_text (Conditional test chosen other) =
    within 2 test (expression_text test) ++ codes " ? "
    ++ within 2 chosen (expression_text chosen) ++ codes " : "
    ++ within 2 other (expression_text other)
expression_text (Comma left right) =
    codes "(void)" ++ within 0 left (expression_text left) ++ codes ", "
    ++ within 3 right (expression_text right)
expression_text (Call name argument) =
    name ++ codes "(" ++ within 3 argument (expression_text argument) ++ codes ")"

-- so many parameters: `int32_t a, int32_t b`
abbrev pub parameters_text : (count : ℕ) → List ℕ
parameters_text zero = codes "void"
parameters_text (suc zero) = codes "int32_t " ++ parameter_name 0
parameters_text (suc (suc count)) =
    parameters_text (suc count) ++ codes ", int32_t " ++ parameter_name (suc count)

-- a function's beginning, and what it does
abbrev pub head_text : Function → List ℕ
head_text function =
    codes "static inline int32_t " ++ function.name ++ codes "("
    ++ parameters_text function.parameters ++ codes ") {"

abbrev pub return_text : Function → List ℕ
return_text function = codes "return " ++ expression_text function.body ++ codes ";"

-- a function in one line of at most 100 columns, or in three
abbrev pub laid_out : (line lines : List ℕ) → List ℕ
laid_out line lines = (if nat_le (length line) 100 then line else lines) ++ codes "\n"

abbrev pub function_text : Function → List ℕ
function_text function = laid_out
    (head_text function ++ codes " " ++ return_text function ++ codes " }")
    (head_text function ++ codes "\n    " ++ return_text function ++ codes "\n}")

-- functions one below another
abbrev pub functions_text : List Function → List ℕ
functions_text [] = []
functions_text (function ∷ rest) = function_text function ++ functions_text rest

-- the text of all operators
unfoldable pub operators_text : List ℕ
operators_text = functions_text functions
