-- What a run of a text takes and gives, counted from the text (StreamIt specification 2.1,
-- "Filters": the rates of `work` are static). Pushes and pops are counted each by itself, and a
-- text is counted only where both are.
use Rattle.std.specs.Prelude.{ℕ, ◌+◌, ◌*◌, min, zero, suc, ℤ, Bool, ◌&&◌, nat_eq, List, [], ◌∷◌}
use Rattle.std.specs.Prelude.{Option, Some, None, if◌then◌else◌}
use Rattle.std.specs.Option.{option_and_then, option_map}
use Rattle.strc_parse_tree.specs.Tree as tree
use Rattle.strc_parse_tree.specs.declared.tree.BinaryOperator.{BinaryOperator}
use Rattle.strc_parse_tree.specs.declared.tree.BinaryOperator.TheVariants as binary
use Rattle.strc_work_meaning.specs.Arithmetic.{is_true}
use Rattle.strc_work_meaning.specs.Constants.{decides}
use Rattle.strc_rate_intervals.specs.Constant.{constant}
use Rattle.strc_rate_intervals.specs.Loops.{Loop, counted_loop}
use Rattle.strc_work_writes.specs.LocalWrites.{Locals, locals_after}
use Rattle.strc_rate.specs.declared.counts.TheConstants.{COUNT_LIMIT}
-- when an operator's right side is evaluated
pub use Rattle.strc_rate.specs.declared.counts.Need.{Need}
pub use Rattle.strc_rate.specs.declared.counts.Need.TheVariants.{Always, Never, Sometimes}
-- so many pushes, and so many pops
pub use Rattle.strc_rate.specs.declared.counts.Counts.{Counts}

-- counts above 65,536 are saturated at 65,537
abbrev pub saturated : ℕ → ℕ
saturated count = min count COUNT_LIMIT

abbrev pub no_items : Counts
no_items = record { pushes = 0; pops = 0 }

abbrev pub one_push : Counts
one_push = record { pushes = 1; pops = 0 }

abbrev pub one_pop : Counts
one_pop = record { pushes = 0; pops = 1 }

abbrev pub same_counts : Counts → Counts → Bool
same_counts first second = nat_eq first.pushes second.pushes && nat_eq first.pops second.pops

-- one after the other
abbrev pub added : Counts → Counts → Counts
added first second = record {
  pushes = saturated (first.pushes + second.pushes);
  pops =
      saturated (first.pops + second.pops);
}

abbrev pub sequence : Option Counts → Option Counts → Option Counts
sequence first second = option_and_then (λ counts. option_map (added counts) second) first

-- one or the other, which must count the same
abbrev pub if_same : Counts → Counts → Option Counts
if_same first second = if same_counts first second then Some first else None

abbrev pub if_equal : Option Counts → Option Counts → Option Counts
if_equal first second = option_and_then (λ counts. option_and_then (if_same counts) second) first

-- what may be left out, or run several times, must count nothing
abbrev pub require_zero : Option Counts → Option Counts
require_zero counts = option_and_then (if_same no_items) counts

-- so many times; nothing is looked at for none
abbrev pub multiplied : ℕ → Counts → Counts
multiplied times counts = record {
  pushes = saturated (times * counts.pushes);
  pops =
      saturated (times * counts.pops);
}

abbrev pub repeated : ℕ → Option Counts → Option Counts
repeated zero counts = Some no_items
repeated (suc times) counts = option_map (multiplied (suc times)) counts

-- the side that a constant condition takes, or both
abbrev pub branch_counts : Option ℤ → (chosen other : Option Counts) → Option Counts
branch_counts None chosen other = if_equal chosen other
branch_counts (Some condition) chosen other = if is_true condition then chosen else other

abbrev pub need_by : BinaryOperator → Option ℤ → Need
need_by operator None = Sometimes
need_by operator (Some left) = if decides operator left then Never else Always

abbrev pub need_of : BinaryOperator → (left : tree.Expr) → Need
need_of binary.LogicalOr left = need_by binary.LogicalOr (constant left)
need_of binary.LogicalAnd left = need_by binary.LogicalAnd (constant left)
need_of _ left = Always

abbrev pub needed : Need → Option Counts → Option Counts
needed Always counts = counts
needed Never counts = Some no_items
needed Sometimes counts = require_zero counts

abbrev mutual
  -- the counts of an expression
  pub expr_counts : tree.Expr → Option Counts
  expr_counts (tree.Number value) = Some no_items
  expr_counts (tree.Truth value) = Some no_items
  expr_counts (tree.Read name) = Some no_items
  expr_counts (tree.Element name index) = expr_counts index
  expr_counts tree.Pop = Some one_pop
  expr_counts (tree.Peek index) = expr_counts index
  expr_counts (tree.Call name arguments) = arguments_counts arguments
  expr_counts (tree.Group inner) = expr_counts inner
  expr_counts (tree.Unary operator operand) = expr_counts operand
  expr_counts (tree.Step operator name) = Some no_items
  expr_counts (tree.StepElement operator name index) = expr_counts index
  expr_counts (tree.Binary operator left right) =
      sequence (expr_counts left) (needed (need_of operator left) (expr_counts right))
  expr_counts (tree.Conditional condition chosen other) =
      sequence (expr_counts condition) (branch_counts (constant condition) (expr_counts chosen)
      (expr_counts other))

  -- the counts of arguments, one after the other
  pub arguments_counts : tree.Arguments → Option Counts
  arguments_counts tree.NoArgument = Some no_items
  arguments_counts (tree.Argument first rest) =
      sequence (expr_counts first) (arguments_counts rest)

abbrev pub option_counts : Option tree.Expr → Option Counts
option_counts None = Some no_items
option_counts (Some value) = expr_counts value

abbrev pub variables_counts : List tree.Variable → Option Counts
variables_counts [] = Some no_items
variables_counts (first ∷ rest) = sequence (option_counts first.initial) (variables_counts rest)

-- the turns of a `for` after its first part: those of a counted loop, and no other loop moves an
-- item
abbrev pub turns_counts : Option Loop → (condition step body : Option Counts) → Option Counts
turns_counts (Some loop) condition step body = repeated loop.turns body
turns_counts None condition step body = sequence (require_zero condition)
    (sequence (require_zero step) (require_zero body))

abbrev mutual
  -- the counts of a statement after these local variables
  pub stmt_counts : Locals → tree.Stmt → Option Counts
  stmt_counts locals tree.Empty = Some no_items
  stmt_counts locals (tree.Compose statement) = Some no_items
  stmt_counts locals (tree.Return value) = Some no_items
  stmt_counts locals (tree.Block body) = stmts_counts locals body
  stmt_counts locals (tree.Declare kind variables) = variables_counts variables
  stmt_counts locals (tree.Evaluate value) = expr_counts value
  stmt_counts locals (tree.Assign name operator value) = expr_counts value
  stmt_counts locals (tree.AssignElement name index operator value) =
      sequence (expr_counts index) (expr_counts value)
  stmt_counts locals (tree.If condition chosen) =
      sequence (expr_counts condition) (branch_counts (constant condition)
      (stmt_counts locals chosen) (Some no_items))
  stmt_counts locals (tree.IfElse condition chosen other) =
      sequence (expr_counts condition) (branch_counts (constant condition)
      (stmt_counts locals chosen) (stmt_counts locals other))
  stmt_counts locals (tree.While condition body) =
      sequence (require_zero (expr_counts condition)) (require_zero (stmt_counts locals body))
  stmt_counts locals (tree.For first condition step body) =
      sequence (stmt_counts locals first)
      (turns_counts (counted_loop locals first condition step body) (option_counts condition)
      (stmt_counts (locals_after locals first) step) (stmt_counts (locals_after locals first) body))
  stmt_counts locals (tree.Push value) = sequence (expr_counts value) (Some one_push)
  stmt_counts locals (tree.Print value) = expr_counts value
  stmt_counts locals (tree.Println value) = expr_counts value

  pub stmts_counts : Locals → tree.Stmts → Option Counts
  stmts_counts locals tree.Done = Some no_items
  stmts_counts locals (tree.Then first rest) =
      sequence (stmt_counts locals first) (stmts_counts (locals_after locals first) rest)
