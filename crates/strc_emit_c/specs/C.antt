-- C, as far as the bodies of functions are written in it: expressions and statements.
use Rattle.std.specs.Prelude.{ℕ, ℤ, Bool, List, [], ◌∷◌}
use Rattle.strc_parse_tree.specs.declared.tree.UnaryOperator.{UnaryOperator}
use Rattle.strc_parse_tree.specs.declared.tree.BinaryOperator.{BinaryOperator}
use Rattle.strc_work_meaning.specs.declared.fault.Cause.{Cause}

-- what a firing counts: the items that it has taken and given, the turns of its loops, and the
-- calls that are running
pub data Counter : Type 0 where
  Popped : Counter
  Pushed : Counter
  Turns : Counter
  Depth : Counter

-- an expression: an element is of the array of so many slots from its base on, an operator is a
-- call of a small function, a sum and a difference are C's own
pub data Expression : Type 0 where
  Number : (value : ℤ) → Expression
  Size : (count : ℕ) → Expression
  Slot : (slot : ℕ) → Expression
  Count : (counter : Counter) → Expression
  Element : (base length : ℕ) (index : Expression) → Expression
  Input : (place : Expression) → Expression
  Unary : (operator : UnaryOperator) (operand : Expression) → Expression
  Binary : (operator : BinaryOperator) (left right : Expression) → Expression
  Sum : (left right : Expression) → Expression
  Difference : (left right : Expression) → Expression

-- what a function leaves by
pub data Test : Type 0 where
  IsZero : (value : Expression) → Test
  IsOutside : (index length : Expression) → Test
  Reaches : (counter : Counter) (limit : ℕ) → Test

-- one statement: an array of slots begins at its base; a call names a helper function by its
-- number, and has its arguments in so many slots from one on
pub data Statement : Type 0 where
  Assign : (slot : ℕ) (value : Expression) → Statement
  AssignElement : (base length : ℕ) (index value : Expression) → Statement
  Output : (place value : Expression) → Statement
  Increase : (counter : Counter) → Statement
  Clear : (base length : ℕ) → Statement
  Print : (value : Expression) (ends_line : Bool) → Statement
  LeaveIf : (test : Test) (cause : Cause) → Statement
  Leave : (cause : Cause) → Statement
  Call : (helper first count into : ℕ) → Statement

-- statements one after another; a loop does its first statements, ends where the slot is 0, and
-- does its body, again and again
pub data Statements : Type 0 where
  End : Statements
  Then : (first : Statement) (rest : Statements) → Statements
  If : (slot : ℕ) (chosen other rest : Statements) → Statements
  Loop : (first : Statements) (slot : ℕ) (body rest : Statements) → Statements

-- these statements, and then others
abbrev pub lines_before : List Statement → Statements → Statements
lines_before [] rest = rest
lines_before (first ∷ others) rest = Then first (lines_before others rest)
