-- Which expressions have the same value in each evaluation, known from the text alone.
use Rattle.std.specs.Prelude.{ℤ, Bool, true, false, ◌&&◌, Option, Some, None, Result, Ok, Err}
use Rattle.std.specs.Prelude.{if◌then◌else◌}
use Rattle.strc_parse_tree.specs.Tree as tree
use Rattle.strc_work_meaning.specs.declared.fault.Cause.{Cause}
use Rattle.strc_work_meaning.specs.Constants.{constant_value}

-- whether an expression is made of numbers, truth values and operators alone: it names no variable,
-- and takes, looks at and changes nothing
abbrev pub is_constant : tree.Expr → Bool
is_constant (tree.Number value) = true
is_constant (tree.Truth value) = true
is_constant (tree.Read name) = false
is_constant (tree.Element name index) = false
is_constant tree.Pop = false
is_constant (tree.Peek index) = false
is_constant (tree.Call name arguments) = false
is_constant (tree.Group inner) = is_constant inner
is_constant (tree.Unary operator operand) = is_constant operand
is_constant (tree.Step operator name) = false
is_constant (tree.StepElement operator name index) = false
is_constant (tree.Binary operator left right) = is_constant left && is_constant right
is_constant (tree.Conditional condition chosen other) =
    is_constant condition && (is_constant chosen && is_constant other)

-- the value of an evaluation without a fault
abbrev pub faultless : Result ℤ Cause → Option ℤ
faultless (Ok value) = Some value
faultless (Err cause) = None

-- the value of a constant: such an expression whose evaluation has no fault
abbrev pub constant : tree.Expr → Option ℤ
constant value = if is_constant value then faultless (constant_value value) else None
