-- The value of an expression that names no variable.
use Rattle.std.specs.Prelude.{ℤ, Bool, false, not, Result, Ok, Err, if◌then◌else◌}
use Rattle.strc_lex_names.specs.Results.{result_and_then}
use Rattle.strc_parse_tree.specs.Tree as tree
use Rattle.strc_parse_tree.specs.declared.tree.BinaryOperator.{BinaryOperator}
use Rattle.strc_parse_tree.specs.declared.tree.BinaryOperator.TheVariants as binary
use Rattle.strc_work_meaning.specs.declared.fault.Cause.{Cause}
use Rattle.strc_work_meaning.specs.declared.fault.Cause.TheVariants.{Index}
use Rattle.strc_work_meaning.specs.Arithmetic.{unary_value, binary_value, truth, is_true}

-- whether the left side's value is the operator's, so that the right side doesn't count
abbrev pub decides : BinaryOperator → ℤ → Bool
decides binary.LogicalOr left = is_true left
decides binary.LogicalAnd left = not (is_true left)
decides _ left = false

-- the value of an operator, whose right side counts only where it is needed
abbrev pub sides_value : BinaryOperator → ℤ → Result ℤ Cause → Result ℤ Cause
sides_value operator left right =
    if decides operator left then Ok left else result_and_then right
    (λ value. binary_value operator left value)

-- the value of a constant expression; what can't be in one faults
abbrev pub constant_value : tree.Expr → Result ℤ Cause
constant_value (tree.Number value) = Ok value
constant_value (tree.Truth value) = Ok (truth value)
constant_value (tree.Read name) = Err Index
constant_value (tree.Element name index) = Err Index
constant_value tree.Pop = Err Index
constant_value (tree.Peek index) = Err Index
constant_value (tree.Call name arguments) = Err Index
constant_value (tree.Group inner) = constant_value inner
constant_value (tree.Unary operator operand) =
    result_and_then (constant_value operand) (λ value. Ok (unary_value operator value))
constant_value (tree.Step operator name) = Err Index
constant_value (tree.StepElement operator name index) = Err Index
constant_value (tree.Binary operator left right) =
    result_and_then (constant_value left)
    (λ value. sides_value operator value (constant_value right))
constant_value (tree.Conditional condition chosen other) =
    result_and_then (constant_value condition)
    (λ test. if is_true test then constant_value chosen else constant_value other)

-- whether an expression names no variable, takes no item and calls no helper
abbrev pub IsConstant : tree.Expr → Type 0
IsConstant (tree.Number value) = Unit {0}
IsConstant (tree.Truth value) = Unit {0}
IsConstant (tree.Read name) = ⊥
IsConstant (tree.Element name index) = ⊥
IsConstant tree.Pop = ⊥
IsConstant (tree.Peek index) = ⊥
IsConstant (tree.Call name arguments) = ⊥
IsConstant (tree.Group inner) = IsConstant inner
IsConstant (tree.Unary operator operand) = IsConstant operand
IsConstant (tree.Step operator name) = ⊥
IsConstant (tree.StepElement operator name index) = ⊥
IsConstant (tree.Binary operator left right) = IsConstant left × IsConstant right
IsConstant (tree.Conditional condition chosen other) =
    IsConstant condition × IsConstant chosen × IsConstant other
