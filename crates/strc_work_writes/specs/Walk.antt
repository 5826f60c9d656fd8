-- What one walk over a text sees: whether it writes a field, among the fields and the local
-- variables that can be seen where it is.
use Rattle.std.specs.Prelude.{ℕ, Bool, false, not, ◌&&◌, ◌||◌, List, [], ◌∷◌, Option, Some, None}
use Rattle.strc_lex_names.specs.Names.{has_name}
use Rattle.strc_parse_tree.specs.Tree as tree
use Rattle.strc_work_writes.specs.LocalWrites.{Locals, with_locals, locals_after}

-- the names of a filter's fields, the last one first
abbrev pub with_fields : List (List ℕ) → List tree.Member → List (List ℕ)
with_fields names [] = names
with_fields names (tree.Fields kind variables ∷ rest) =
    with_fields (with_locals names variables) rest
with_fields names (tree.Init block ∷ rest) = with_fields names rest
with_fields names (tree.Prework rates block ∷ rest) = with_fields names rest
with_fields names (tree.Work rates block ∷ rest) = with_fields names rest
with_fields names (tree.Helper kind name parameters block ∷ rest) = with_fields names rest

-- whether a name is that of a field here
abbrev pub is_field : (fields : List (List ℕ)) → Locals → List ℕ → Bool
is_field fields locals name = not (has_name locals name) && has_name fields name

abbrev mutual
  pub expr_writes_field : (fields : List (List ℕ)) → Locals → tree.Expr → Bool
  expr_writes_field fields locals (tree.Number value) = false
  expr_writes_field fields locals (tree.Truth value) = false
  expr_writes_field fields locals (tree.Read read) = false
  expr_writes_field fields locals (tree.Element array index) = expr_writes_field fields locals index
  expr_writes_field fields locals tree.Pop = false
  expr_writes_field fields locals (tree.Peek index) = expr_writes_field fields locals index
  expr_writes_field fields locals (tree.Call called arguments) =
      exprs_write_field fields locals arguments
  expr_writes_field fields locals (tree.Group inner) = expr_writes_field fields locals inner
  expr_writes_field fields locals (tree.Unary operator operand) =
      expr_writes_field fields locals operand
  expr_writes_field fields locals (tree.Step operator stepped) = is_field fields locals stepped
  expr_writes_field fields locals (tree.StepElement operator array index) =
      is_field fields locals array || expr_writes_field fields locals index
  expr_writes_field fields locals (tree.Binary operator left right) =
      expr_writes_field fields locals left || expr_writes_field fields locals right
  expr_writes_field fields locals (tree.Conditional condition chosen other) =
      expr_writes_field fields locals condition
      || (expr_writes_field fields locals chosen || expr_writes_field fields locals other)

  pub exprs_write_field : (fields : List (List ℕ)) → Locals → tree.Arguments → Bool
  exprs_write_field fields locals tree.NoArgument = false
  exprs_write_field fields locals (tree.Argument first rest) =
      expr_writes_field fields locals first || exprs_write_field fields locals rest

abbrev pub option_writes_field : (fields : List (List ℕ)) → Locals → Option tree.Expr → Bool
option_writes_field fields locals None = false
option_writes_field fields locals (Some value) = expr_writes_field fields locals value

-- an initialiser doesn't see its own variable, and those after it do
abbrev pub variables_write_field : (fields : List (List ℕ)) → Locals → List tree.Variable → Bool
variables_write_field fields locals [] = false
variables_write_field fields locals (first ∷ rest) =
    option_writes_field fields locals first.initial
    || variables_write_field fields (first.name ∷ locals) rest

abbrev mutual
  pub stmt_writes_field : (fields : List (List ℕ)) → Locals → tree.Stmt → Bool
  stmt_writes_field fields locals tree.Empty = false
  stmt_writes_field fields locals (tree.Compose statement) = false
  stmt_writes_field fields locals (tree.Block body) = stmts_write_field fields locals body
  stmt_writes_field fields locals (tree.Declare kind variables) =
      variables_write_field fields locals variables
  stmt_writes_field fields locals (tree.Evaluate value) = expr_writes_field fields locals value
  stmt_writes_field fields locals (tree.Assign assigned operator value) =
      is_field fields locals assigned || expr_writes_field fields locals value
  stmt_writes_field fields locals (tree.AssignElement array index operator value) =
      is_field fields locals array
      || (expr_writes_field fields locals index || expr_writes_field fields locals value)
  stmt_writes_field fields locals (tree.If condition chosen) =
      expr_writes_field fields locals condition || stmt_writes_field fields locals chosen
  stmt_writes_field fields locals (tree.IfElse condition chosen other) =
      expr_writes_field fields locals condition
      || (stmt_writes_field fields locals chosen || stmt_writes_field fields locals other)
  stmt_writes_field fields locals (tree.While condition body) =
      expr_writes_field fields locals condition || stmt_writes_field fields locals body
  stmt_writes_field fields locals (tree.For first condition step body) =
      stmt_writes_field fields locals first
      || (option_writes_field fields (locals_after locals first) condition
      || (stmt_writes_field fields (locals_after locals first) step
      || stmt_writes_field fields (locals_after locals first) body))
  stmt_writes_field fields locals (tree.Push value) = expr_writes_field fields locals value
  stmt_writes_field fields locals (tree.Print value) = expr_writes_field fields locals value
  stmt_writes_field fields locals (tree.Println value) = expr_writes_field fields locals value
  stmt_writes_field fields locals (tree.Return value) = option_writes_field fields locals value

  pub stmts_write_field : (fields : List (List ℕ)) → Locals → tree.Stmts → Bool
  stmts_write_field fields locals tree.Done = false
  stmts_write_field fields locals (tree.Then first rest) =
      stmt_writes_field fields locals first
      || stmts_write_field fields (locals_after locals first) rest
