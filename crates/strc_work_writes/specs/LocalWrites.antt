-- Which variables statements write, by their names where these are seen.
use Rattle.std.specs.Prelude.{ℕ, Bool}
use Rattle.std.specs.Prelude.{false, not, ◌&&◌, ◌||◌, List, [], ◌∷◌, Option, Some, None}
use Rattle.std.specs.Prelude.{bytes_eq}
use Rattle.strc_parse_tree.specs.Tree as tree

-- the names of the local variables that can be seen, the innermost first
abbrev pub Locals : Type 0
Locals = List (List ℕ)

abbrev pub with_locals : Locals → List tree.Variable → Locals
with_locals locals [] = locals
with_locals locals (first ∷ rest) = with_locals (first.name ∷ locals) rest

-- the local variables that can be seen after a statement
abbrev pub locals_after : Locals → tree.Stmt → Locals
locals_after locals (tree.Declare kind variables) = with_locals locals variables
locals_after locals _ = locals

-- whether a variable of this name is among those that are declared
abbrev pub declares : List ℕ → List tree.Variable → Bool
declares name [] = false
declares name (first ∷ rest) = bytes_eq first.name name || declares name rest

-- whether the statements after one see a new variable of this name
abbrev pub shadows : List ℕ → tree.Stmt → Bool
shadows name (tree.Declare kind variables) = declares name variables
shadows name _ = false

-- whether an expression writes the variable that this name has where it is
abbrev mutual
  pub expr_writes : List ℕ → tree.Expr → Bool
  expr_writes name (tree.Number value) = false
  expr_writes name (tree.Truth value) = false
  expr_writes name (tree.Read read) = false
  expr_writes name (tree.Element array index) = expr_writes name index
  expr_writes name tree.Pop = false
  expr_writes name (tree.Peek index) = expr_writes name index
  expr_writes name (tree.Call called arguments) = exprs_write name arguments
  expr_writes name (tree.Group inner) = expr_writes name inner
  expr_writes name (tree.Unary operator operand) = expr_writes name operand
  expr_writes name (tree.Step operator stepped) = bytes_eq stepped name
  expr_writes name (tree.StepElement operator array index) =
      bytes_eq array name || expr_writes name index
  expr_writes name (tree.Binary operator left right) =
      expr_writes name left || expr_writes name right
  expr_writes name (tree.Conditional condition chosen other) =
      expr_writes name condition || (expr_writes name chosen || expr_writes name other)

  pub exprs_write : List ℕ → tree.Arguments → Bool
  exprs_write name tree.NoArgument = false
  exprs_write name (tree.Argument first rest) = expr_writes name first || exprs_write name rest

abbrev pub option_writes : List ℕ → Option tree.Expr → Bool
option_writes name None = false
option_writes name (Some value) = expr_writes name value

-- an initialiser doesn't see its own variable, and those after it do
abbrev pub variables_write : List ℕ → List tree.Variable → Bool
variables_write name [] = false
variables_write name (first ∷ rest) =
    option_writes name first.initial || (not (bytes_eq first.name name)
    && variables_write name rest)

abbrev mutual
  -- whether a statement writes the variable that this name has where it is, and not an inner
  -- one of the same name
  pub stmt_writes : List ℕ → tree.Stmt → Bool
  stmt_writes name tree.Empty = false
  stmt_writes name (tree.Compose statement) = false
  stmt_writes name (tree.Block body) = stmts_write name body
  stmt_writes name (tree.Declare kind variables) = variables_write name variables
  stmt_writes name (tree.Evaluate value) = expr_writes name value
  stmt_writes name (tree.Assign assigned operator value) =
      bytes_eq assigned name || expr_writes name value
  stmt_writes name (tree.AssignElement array index operator value) =
      bytes_eq array name || (expr_writes name index || expr_writes name value)
  stmt_writes name (tree.If condition chosen) =
      expr_writes name condition || stmt_writes name chosen
  stmt_writes name (tree.IfElse condition chosen other) =
      expr_writes name condition || (stmt_writes name chosen || stmt_writes name other)
  stmt_writes name (tree.While condition body) = expr_writes name condition || stmt_writes name body
  stmt_writes name (tree.For first condition step body) =
      stmt_writes name first
      || (not (shadows name first) && (option_writes name condition
      || (stmt_writes name step || stmt_writes name body)))
  stmt_writes name (tree.Push value) = expr_writes name value
  stmt_writes name (tree.Print value) = expr_writes name value
  stmt_writes name (tree.Println value) = expr_writes name value
  stmt_writes name (tree.Return value) = option_writes name value

  pub stmts_write : List ℕ → tree.Stmts → Bool
  stmts_write name tree.Done = false
  stmts_write name (tree.Then first rest) =
      stmt_writes name first || (not (shadows name first) && stmts_write name rest)
