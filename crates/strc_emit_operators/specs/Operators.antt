-- The functions of operators.
use Rattle.std.specs.Prelude.{List, [], ◌∷◌}
use Rattle.strc_parse_tree.specs.declared.tree.UnaryOperator.{UnaryOperator}
use Rattle.strc_parse_tree.specs.declared.tree.UnaryOperator.TheVariants as unary
use Rattle.strc_parse_tree.specs.declared.tree.BinaryOperator.{BinaryOperator}
use Rattle.strc_parse_tree.specs.declared.tree.BinaryOperator.TheVariants as binary
use Rattle.strc_emit_c.specs.Spelling.{unary_name, binary_name}
use Rattle.strc_emit_operators.specs.Expressions.{Signed, Unsigned, Arithmetic, Plus}
use Rattle.strc_emit_operators.specs.Expressions.{Minus, Times, Over, Modulo, BitOr, BitXor, BitAnd}
use Rattle.strc_emit_operators.specs.Expressions.{Left, Right, Equal, NotEqual, Less}
use Rattle.strc_emit_operators.specs.Expressions.{LessOrEqual, Greater, GreaterOrEqual}
use Rattle.strc_emit_operators.specs.Expressions.{Expression, Parameter, Literal, Cast, Negative}
use Rattle.strc_emit_operators.specs.Expressions.{Inverted, Calculated, Shifted, Compared}
use Rattle.strc_emit_operators.specs.Expressions.{Conditional, Comma, Call, Function}

abbrev a : Expression
a = Parameter 0

abbrev b : Expression
b = Parameter 1

-- unsigned arithmetic, which wraps around: `(int32_t)((uint32_t)a + (uint32_t)b)`
abbrev wrapping : Arithmetic → Expression
wrapping operator = Cast Signed (Calculated operator (Cast Unsigned a) (Cast Unsigned b))

-- the low five bits of a shift's count: `(uint32_t)b & 31u`
abbrev low_bits : Expression
low_bits = Calculated BitAnd (Cast Unsigned b) (Literal Unsigned 31)

-- a division, but for the one by -1, whose quotient may not fit: `b == -1 ? .. : a / b`
abbrev unless_minus_one : (chosen : Expression) → Arithmetic → Expression
unless_minus_one chosen operator =
    Conditional (Compared Equal b (Negative (Literal Signed 1))) chosen (Calculated operator a b)

abbrev pub unary_body : UnaryOperator → Expression
unary_body unary.Negate =
    Cast Signed (Calculated Minus (Literal Unsigned 0) (Cast Unsigned a))
unary_body unary.Not = Compared Equal a (Literal Signed 0)
unary_body unary.Complement = Inverted a

abbrev pub binary_body : BinaryOperator → Expression
binary_body binary.LogicalOr = Comma a b
binary_body binary.LogicalAnd = Comma a b
binary_body binary.Or = Calculated BitOr a b
binary_body binary.ExclusiveOr = Calculated BitXor a b
binary_body binary.And = Calculated BitAnd a b
binary_body binary.Equal = Compared Equal a b
binary_body binary.NotEqual = Compared NotEqual a b
binary_body binary.Less = Compared Less a b
binary_body binary.LessOrEqual = Compared LessOrEqual a b
binary_body binary.Greater = Compared Greater a b
binary_body binary.GreaterOrEqual = Compared GreaterOrEqual a b
binary_body binary.ShiftLeft = Cast Signed (Shifted Left (Cast Unsigned a) low_bits)
binary_body binary.ShiftRight = Shifted Right a low_bits
binary_body binary.Add = wrapping Plus
binary_body binary.Subtract = wrapping Minus
binary_body binary.Multiply = wrapping Times
binary_body binary.Divide = unless_minus_one (Call (unary_name unary.Negate) a) Over
binary_body binary.Remainder = unless_minus_one (Literal Signed 0) Modulo

abbrev pub unary_function : UnaryOperator → Function
unary_function operator = record {
  name = unary_name operator;
  parameters = 1;
  body = unary_body operator;
}

abbrev pub binary_function : BinaryOperator → Function
binary_function operator = record {
  name = binary_name operator;
  parameters = 2;
  body = binary_body operator;
}

-- all of them, as they stand one below another; `||` and `&&` have one function
abbrev pub functions : List Function
functions =
    unary_function unary.Negate ∷ unary_function unary.Not ∷ unary_function unary.Complement
    ∷ binary_function binary.Add ∷ binary_function binary.Subtract
    ∷ binary_function binary.Multiply ∷ binary_function binary.Divide
    ∷ binary_function binary.Remainder ∷ binary_function binary.Or
    ∷ binary_function binary.ExclusiveOr ∷ binary_function binary.And
    ∷ binary_function binary.LogicalOr ∷ binary_function binary.Equal
    ∷ binary_function binary.NotEqual ∷ binary_function binary.Less
    ∷ binary_function binary.LessOrEqual ∷ binary_function binary.Greater
    ∷ binary_function binary.GreaterOrEqual ∷ binary_function binary.ShiftLeft
    ∷ binary_function binary.ShiftRight ∷ []
