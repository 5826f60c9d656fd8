-- How often what can fault so occurs in the text of a filter: divisions and remainders by what can
-- be zero, elements of arrays, peeks, loops and calls.
use Rattle.std.specs.Prelude.{ℕ, ◌+◌, ℤ, pos, Bool, true, List, [], ◌∷◌, Option, Some, None}
use Rattle.std.specs.Prelude.{if◌then◌else◌, ◌&&◌, false}
use Rattle.std.specs.Ordering.{int_eq}
use denote.Enum.Bare.{sameb}
use Rattle.strc_parse_tree.specs.Tree as tree
use Rattle.strc_parse_tree.specs.declared.tree.AssignOperator.{AssignOperator}
use Rattle.strc_parse_tree.specs.declared.tree.AssignOperator.TheVariants as assign
use Rattle.strc_parse_tree.specs.declared.tree.BinaryOperator.{BinaryOperator}
use Rattle.strc_parse_tree.specs.declared.tree.BinaryOperator.TheVariants as binary
use Rattle.strc_work_meaning.specs.declared.fault.Cause.{Cause}
use Rattle.strc_work_meaning.specs.declared.fault.Cause.TheVariants as cause
use Rattle.strc_rate_intervals.specs.Constant.{constant}
use Rattle.strc_cli_statements.specs.contracts.occurrences.Sought.{the_type as sought_type}
use Rattle.strc_cli_statements.specs.declared.occurrences.Sought.{Sought}
use Rattle.strc_cli_statements.specs.declared.occurrences.Sought.TheVariants as sought

-- what has a fault of this cause
abbrev pub sought_for : Cause → Sought
sought_for cause.DivZero = sought.Division
sought_for cause.Index = sought.Element
sought_for cause.PeekRange = sought.Peek
sought_for cause.Turns = sought.Turn
sought_for cause.Calls = sought.Call

-- one where this is what is looked for
abbrev pub one : Sought → Sought → ℕ
one looked occurs = if sameb sought_type looked occurs then 1 else 0

-- a divisor that can be zero: it isn't known from the text, or it is 0
abbrev pub zero_or_unknown : Option ℤ → Bool
zero_or_unknown None = true
zero_or_unknown (Some number) = int_eq number (pos 0)

abbrev pub can_be_zero : tree.Expr → Bool
can_be_zero value = zero_or_unknown (constant value)

abbrev pub divides : BinaryOperator → Bool
divides binary.Divide = true
divides binary.Remainder = true
divides operator = false

-- whether an assignment divides its variable
abbrev pub assigns_quotient : AssignOperator → Bool
assigns_quotient assign.Divide = true
assigns_quotient assign.Remainder = true
assigns_quotient operator = false

-- a division by this, where there is one
abbrev pub division : Sought → Bool → tree.Expr → ℕ
division looked is_one divisor =
    if is_one && can_be_zero divisor then one looked sought.Division else 0

abbrev mutual
  pub expression_count : Sought → tree.Expr → ℕ
  expression_count looked (tree.Number value) = 0
  expression_count looked (tree.Truth value) = 0
  expression_count looked (tree.Read name) = 0
  expression_count looked (tree.Element name index) =
      expression_count looked index + one looked sought.Element
  expression_count looked tree.Pop = 0
  expression_count looked (tree.Peek index) = expression_count looked index + one looked sought.Peek
  expression_count looked (tree.Call name arguments) =
      arguments_count looked arguments + one looked sought.Call + one looked sought.Turn
  expression_count looked (tree.Group inner) = expression_count looked inner
  expression_count looked (tree.Unary operator operand) = expression_count looked operand
  expression_count looked (tree.Step operator name) = 0
  expression_count looked (tree.StepElement operator name index) =
      expression_count looked index + one looked sought.Element
  expression_count looked (tree.Binary operator left right) =
      expression_count looked left + expression_count looked right
      + division looked (divides operator) right
  expression_count looked (tree.Conditional condition chosen other) =
      expression_count looked condition + expression_count looked chosen
      + expression_count looked other

  -- in the arguments of a call
  pub arguments_count : Sought → tree.Arguments → ℕ
  arguments_count looked tree.NoArgument = 0
  arguments_count looked (tree.Argument first rest) =
      expression_count looked first + arguments_count looked rest

abbrev pub option_count : Sought → Option tree.Expr → ℕ
option_count looked None = 0
option_count looked (Some value) = expression_count looked value

abbrev pub variables_count : Sought → List tree.Variable → ℕ
variables_count looked [] = 0
variables_count looked (first ∷ rest) = option_count looked first.initial
    + variables_count looked rest

abbrev mutual
  pub stmt_count : Sought → tree.Stmt → ℕ
  stmt_count looked tree.Empty = 0
  stmt_count looked (tree.Block body) = row_count looked body
  stmt_count looked (tree.Declare kind variables) = variables_count looked variables
  stmt_count looked (tree.Evaluate value) = expression_count looked value
  stmt_count looked (tree.Assign name operator value) =
      expression_count looked value + division looked (assigns_quotient operator) value
  stmt_count looked (tree.AssignElement name index operator value) =
      expression_count looked index + expression_count looked value + one looked sought.Element
      + division looked (assigns_quotient operator) value
  stmt_count looked (tree.If condition chosen) =
      expression_count looked condition + stmt_count looked chosen
  stmt_count looked (tree.IfElse condition chosen other) =
      expression_count looked condition + stmt_count looked chosen + stmt_count looked other
  stmt_count looked (tree.While condition body) =
      one looked sought.Turn + expression_count looked condition + stmt_count looked body
  stmt_count looked (tree.For first condition step body) =
      one looked sought.Turn + stmt_count looked first + option_count looked condition
      + stmt_count looked step + stmt_count looked body
  stmt_count looked (tree.Push value) = expression_count looked value
  stmt_count looked (tree.Print value) = expression_count looked value
  stmt_count looked (tree.Println value) = expression_count looked value
  stmt_count looked (tree.Compose statement) = 0
  stmt_count looked (tree.Return value) = option_count looked value

  pub row_count : Sought → tree.Stmts → ℕ
  row_count looked tree.Done = 0
  row_count looked (tree.Then first rest) = stmt_count looked first + row_count looked rest

-- in what a filter starts with: the initialisers of its fields, `init`, and the helper functions,
-- any of which may be called there
abbrev pub member_count : Sought → tree.Member → ℕ
member_count looked (tree.Fields kind variables) = variables_count looked variables
member_count looked (tree.Init block) = row_count looked block
member_count looked (tree.Prework rates block) = 0
member_count looked (tree.Work rates block) = 0
member_count looked (tree.Helper kind name parameters block) = row_count looked block

abbrev pub start_count : Sought → List tree.Member → ℕ
start_count looked [] = 0
start_count looked (first ∷ rest) = member_count looked first + start_count looked rest

-- in the helper functions of a filter, any of which a body may call
abbrev pub helper_count : Sought → tree.Member → ℕ
helper_count looked (tree.Fields kind variables) = 0
helper_count looked (tree.Init block) = 0
helper_count looked (tree.Prework rates block) = 0
helper_count looked (tree.Work rates block) = 0
helper_count looked (tree.Helper kind name parameters block) = row_count looked block

abbrev pub helpers_count : Sought → List tree.Member → ℕ
helpers_count looked [] = 0
helpers_count looked (first ∷ rest) = helper_count looked first + helpers_count looked rest
