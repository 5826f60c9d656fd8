-- C, as far as the functions of operators are written in it: expressions, and functions that return
-- one.
use Rattle.std.specs.Prelude.{ℕ, List}

-- the types of numbers, int32_t and uint32_t: an `int` has 32 bits, so it is the first of them
pub data NumberType : Type 0 where
  Signed : NumberType
  Unsigned : NumberType

-- `+ - * / % | ^ &`
pub data Arithmetic : Type 0 where
  Plus : Arithmetic
  Minus : Arithmetic
  Times : Arithmetic
  Over : Arithmetic
  Modulo : Arithmetic
  BitOr : Arithmetic
  BitXor : Arithmetic
  BitAnd : Arithmetic

-- `<< >>`
pub data Shift : Type 0 where
  Left : Shift
  Right : Shift

-- `== != < <= > >=`
pub data Comparison : Type 0 where
  Equal : Comparison
  NotEqual : Comparison
  Less : Comparison
  LessOrEqual : Comparison
  Greater : Comparison
  GreaterOrEqual : Comparison

-- an expression: the parameters are `a` and `b`, `Negative` is `-`, `Inverted` is `~`, and `Comma`
-- casts its left side to void
pub data Expression : Type 0 where
  Parameter : (number : ℕ) → Expression
  Literal : (type : NumberType) (value : ℕ) → Expression
  Cast : (type : NumberType) (operand : Expression) → Expression
  Negative : (operand : Expression) → Expression
  Inverted : (operand : Expression) → Expression
  Calculated : (operator : Arithmetic) (left right : Expression) → Expression
  Shifted : (shift : Shift) (value count : Expression) → Expression
  Compared : (comparison : Comparison) (left right : Expression) → Expression
  Conditional : (test chosen other : Expression) → Expression
  Comma : (left right : Expression) → Expression
  Call : (name : List ℕ) (argument : Expression) → Expression

-- a function of so many parameters, each an int32_t, that returns an expression as an int32_t
pub record Function : Type 0 where
  pub name : List ℕ
  pub parameters : ℕ
  pub body : Expression
