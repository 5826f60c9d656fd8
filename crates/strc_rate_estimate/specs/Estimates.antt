-- Estimates of the work of a text: how many operations a run has, where each expression and each
-- statement is one beside its parts. Of two branches the greater one counts, a counted loop counts
-- by its turns, another loop by a fixed number of them, and a call by the body that it runs.
use Rattle.std.specs.Prelude.{ℕ, ◌+◌, ◌*◌, min, max, List, [], ◌∷◌, Option, Some, None}
use Rattle.std.specs.Prelude.{if◌then◌else◌, bytes_eq}
use Rattle.strc_parse_tree.specs.Tree as tree
use Rattle.strc_rate_intervals.specs.Loops.{Loop, counted_loop}
use Rattle.strc_work_writes.specs.LocalWrites.{Locals}
use Rattle.strc_rate_estimate.specs.declared.sums.TheConstants.{ESTIMATE_LIMIT, LOOP_TURNS}
use Rattle.strc_rate_estimate.specs.declared.sums.TheConstants.{UNKNOWN_CALL}

-- helper functions by their names, with the estimates of their bodies
abbrev pub Helpers : Type 0
Helpers = List (List ℕ × ℕ)

abbrev pub sum : ℕ → ℕ → ℕ
sum first second = min (first + second) ESTIMATE_LIMIT

abbrev pub product : (times estimate : ℕ) → ℕ
product times estimate = min (times * estimate) ESTIMATE_LIMIT

abbrev pub call_estimate : Helpers → (name : List ℕ) → ℕ
call_estimate [] name = UNKNOWN_CALL
call_estimate ((helper, estimate) ∷ others) name =
    if bytes_eq helper name then estimate else call_estimate others name

abbrev mutual
  pub expr_estimate : Helpers → tree.Expr → ℕ
  expr_estimate helpers (tree.Number value) = 1
  expr_estimate helpers (tree.Truth value) = 1
  expr_estimate helpers (tree.Read name) = 1
  expr_estimate helpers tree.Pop = 1
  expr_estimate helpers (tree.Step operator name) = 1
  expr_estimate helpers (tree.Group inner) = expr_estimate helpers inner
  expr_estimate helpers (tree.Element name index) = sum 1 (expr_estimate helpers index)
  expr_estimate helpers (tree.Peek index) = sum 1 (expr_estimate helpers index)
  expr_estimate helpers (tree.Unary operator operand) = sum 1 (expr_estimate helpers operand)
  expr_estimate helpers (tree.StepElement operator name index) =
      sum 1 (expr_estimate helpers index)
  expr_estimate helpers (tree.Binary operator left right) =
      sum 1 (sum (expr_estimate helpers left) (expr_estimate helpers right))
  expr_estimate helpers (tree.Conditional condition chosen other) =
      sum (sum 1 (expr_estimate helpers condition))
      (max (expr_estimate helpers chosen) (expr_estimate helpers other))
  expr_estimate helpers (tree.Call name arguments) =
      sum (call_estimate helpers name) (arguments_estimate helpers arguments)

  pub arguments_estimate : Helpers → tree.Arguments → ℕ
  arguments_estimate helpers tree.NoArgument = 0
  arguments_estimate helpers (tree.Argument first rest) =
      sum (expr_estimate helpers first) (arguments_estimate helpers rest)

abbrev pub option_estimate : Helpers → Option tree.Expr → ℕ
option_estimate helpers None = 0
option_estimate helpers (Some value) = expr_estimate helpers value

abbrev pub variables_estimate : Helpers → List tree.Variable → ℕ
variables_estimate helpers [] = 0
variables_estimate helpers (first ∷ rest) =
    sum (option_estimate helpers first.initial) (variables_estimate helpers rest)

-- the turns of a `for`
abbrev pub counted_turns : Option Loop → ℕ
counted_turns (Some loop) = loop.turns
counted_turns None = LOOP_TURNS

abbrev pub turns_of : Locals → (first : tree.Stmt) → Option tree.Expr → (step body : tree.Stmt) → ℕ
turns_of locals first condition step body =
    counted_turns (counted_loop locals first condition step body)

abbrev pub turn_estimate : (condition step body : ℕ) → ℕ
turn_estimate condition step body = sum (sum (sum 1 condition) step) body

abbrev mutual
  pub stmt_estimate : Locals → Helpers → tree.Stmt → ℕ
  stmt_estimate locals helpers tree.Empty = 0
  stmt_estimate locals helpers (tree.Compose statement) = 0
  stmt_estimate locals helpers (tree.Block body) = block_estimate locals helpers body
  stmt_estimate locals helpers (tree.Declare kind variables) = variables_estimate helpers variables
  stmt_estimate locals helpers (tree.Return value) = option_estimate helpers value
  stmt_estimate locals helpers (tree.Evaluate value) = expr_estimate helpers value
  stmt_estimate locals helpers (tree.Assign name operator value) =
      sum 1 (expr_estimate helpers value)
  stmt_estimate locals helpers (tree.AssignElement name index operator value) =
      sum 1 (sum (expr_estimate helpers index) (expr_estimate helpers value))
  stmt_estimate locals helpers (tree.Push value) = sum 1 (expr_estimate helpers value)
  stmt_estimate locals helpers (tree.Print value) = sum 1 (expr_estimate helpers value)
  stmt_estimate locals helpers (tree.Println value) = sum 1 (expr_estimate helpers value)
  stmt_estimate locals helpers (tree.If condition chosen) =
      sum (sum 1 (expr_estimate helpers condition)) (stmt_estimate locals helpers chosen)
  stmt_estimate locals helpers (tree.IfElse condition chosen other) =
      sum (sum 1 (expr_estimate helpers condition))
      (max (stmt_estimate locals helpers chosen) (stmt_estimate locals helpers other))
  stmt_estimate locals helpers (tree.While condition body) = product LOOP_TURNS
      (sum (sum 1 (expr_estimate helpers condition)) (stmt_estimate locals helpers body))
  stmt_estimate locals helpers (tree.For first condition step body) =
      sum (stmt_estimate locals helpers first) (product (turns_of locals first condition step body)
      (turn_estimate (option_estimate helpers condition) (stmt_estimate locals helpers step)
      (stmt_estimate locals helpers body)))

  pub block_estimate : Locals → Helpers → tree.Stmts → ℕ
  block_estimate locals helpers tree.Done = 0
  block_estimate locals helpers (tree.Then first rest) =
      sum (stmt_estimate locals helpers first) (block_estimate locals helpers rest)
