-- Which calls a text has: the functions that it calls, and whether one of them is such a function.
use Rattle.std.specs.Prelude.{ℕ, Bool, false, ◌||◌, List, [], ◌∷◌, ◌++◌, Option, Some, None}
use Rattle.strc_parse_tree.specs.Tree as tree

-- ---- the functions that a text calls, in order

abbrev mutual
  pub called_in_expr : tree.Expr → List (List ℕ)
  called_in_expr (tree.Number value) = []
  called_in_expr (tree.Truth value) = []
  called_in_expr (tree.Read read) = []
  called_in_expr (tree.Element array index) = called_in_expr index
  called_in_expr tree.Pop = []
  called_in_expr (tree.Peek index) = called_in_expr index
  called_in_expr (tree.Call called arguments) = called ∷ called_in_arguments arguments
  called_in_expr (tree.Group inner) = called_in_expr inner
  called_in_expr (tree.Unary operator operand) = called_in_expr operand
  called_in_expr (tree.Step operator stepped) = []
  called_in_expr (tree.StepElement operator array index) = called_in_expr index
  called_in_expr (tree.Binary operator left right) = called_in_expr left ++ called_in_expr right
  called_in_expr (tree.Conditional condition chosen other) =
      called_in_expr condition ++ (called_in_expr chosen ++ called_in_expr other)

  pub called_in_arguments : tree.Arguments → List (List ℕ)
  called_in_arguments tree.NoArgument = []
  called_in_arguments (tree.Argument first rest) =
      called_in_expr first ++ called_in_arguments rest

abbrev pub called_in_option : Option tree.Expr → List (List ℕ)
called_in_option None = []
called_in_option (Some value) = called_in_expr value

abbrev pub called_in_variables : List tree.Variable → List (List ℕ)
called_in_variables [] = []
called_in_variables (first ∷ rest) = called_in_option first.initial ++ called_in_variables rest

abbrev mutual
  pub called_in_stmt : tree.Stmt → List (List ℕ)
  called_in_stmt tree.Empty = []
  called_in_stmt (tree.Compose statement) = []
  called_in_stmt (tree.Block body) = called_in_stmts body
  called_in_stmt (tree.Declare kind variables) = called_in_variables variables
  called_in_stmt (tree.Evaluate value) = called_in_expr value
  called_in_stmt (tree.Assign assigned operator value) = called_in_expr value
  called_in_stmt (tree.AssignElement array index operator value) =
      called_in_expr index ++ called_in_expr value
  called_in_stmt (tree.If condition chosen) = called_in_expr condition ++ called_in_stmt chosen
  called_in_stmt (tree.IfElse condition chosen other) =
      called_in_expr condition ++ (called_in_stmt chosen ++ called_in_stmt other)
  called_in_stmt (tree.While condition body) = called_in_expr condition ++ called_in_stmt body
  called_in_stmt (tree.For first condition step body) =
      called_in_stmt first
      ++ (called_in_option condition ++ (called_in_stmt step ++ called_in_stmt body))
  called_in_stmt (tree.Push value) = called_in_expr value
  called_in_stmt (tree.Print value) = called_in_expr value
  called_in_stmt (tree.Println value) = called_in_expr value
  called_in_stmt (tree.Return value) = called_in_option value

  pub called_in_stmts : tree.Stmts → List (List ℕ)
  called_in_stmts tree.Done = []
  called_in_stmts (tree.Then first rest) = called_in_stmt first ++ called_in_stmts rest

-- ---- whether one of them is such a function

abbrev mutual
  pub expr_calls_one : (such : List ℕ → Bool) → tree.Expr → Bool
  expr_calls_one such (tree.Number value) = false
  expr_calls_one such (tree.Truth value) = false
  expr_calls_one such (tree.Read read) = false
  expr_calls_one such (tree.Element array index) = expr_calls_one such index
  expr_calls_one such tree.Pop = false
  expr_calls_one such (tree.Peek index) = expr_calls_one such index
  expr_calls_one such (tree.Call called arguments) =
      such called || arguments_call_one such arguments
  expr_calls_one such (tree.Group inner) = expr_calls_one such inner
  expr_calls_one such (tree.Unary operator operand) = expr_calls_one such operand
  expr_calls_one such (tree.Step operator stepped) = false
  expr_calls_one such (tree.StepElement operator array index) = expr_calls_one such index
  expr_calls_one such (tree.Binary operator left right) =
      expr_calls_one such left || expr_calls_one such right
  expr_calls_one such (tree.Conditional condition chosen other) =
      expr_calls_one such condition || (expr_calls_one such chosen || expr_calls_one such other)

  pub arguments_call_one : (such : List ℕ → Bool) → tree.Arguments → Bool
  arguments_call_one such tree.NoArgument = false
  arguments_call_one such (tree.Argument first rest) =
      expr_calls_one such first || arguments_call_one such rest

abbrev pub option_calls_one : (such : List ℕ → Bool) → Option tree.Expr → Bool
option_calls_one such None = false
option_calls_one such (Some value) = expr_calls_one such value

abbrev pub variables_call_one : (such : List ℕ → Bool) → List tree.Variable → Bool
variables_call_one such [] = false
variables_call_one such (first ∷ rest) =
    option_calls_one such first.initial || variables_call_one such rest

abbrev mutual
  pub stmt_calls_one : (such : List ℕ → Bool) → tree.Stmt → Bool
  stmt_calls_one such tree.Empty = false
  stmt_calls_one such (tree.Compose statement) = false
  stmt_calls_one such (tree.Block body) = stmts_call_one such body
  stmt_calls_one such (tree.Declare kind variables) = variables_call_one such variables
  stmt_calls_one such (tree.Evaluate value) = expr_calls_one such value
  stmt_calls_one such (tree.Assign assigned operator value) = expr_calls_one such value
  stmt_calls_one such (tree.AssignElement array index operator value) =
      expr_calls_one such index || expr_calls_one such value
  stmt_calls_one such (tree.If condition chosen) =
      expr_calls_one such condition || stmt_calls_one such chosen
  stmt_calls_one such (tree.IfElse condition chosen other) =
      expr_calls_one such condition || (stmt_calls_one such chosen || stmt_calls_one such other)
  stmt_calls_one such (tree.While condition body) =
      expr_calls_one such condition || stmt_calls_one such body
  stmt_calls_one such (tree.For first condition step body) =
      stmt_calls_one such first
      || (option_calls_one such condition
      || (stmt_calls_one such step || stmt_calls_one such body))
  stmt_calls_one such (tree.Push value) = expr_calls_one such value
  stmt_calls_one such (tree.Print value) = expr_calls_one such value
  stmt_calls_one such (tree.Println value) = expr_calls_one such value
  stmt_calls_one such (tree.Return value) = option_calls_one such value

  pub stmts_call_one : (such : List ℕ → Bool) → tree.Stmts → Bool
  stmts_call_one such tree.Done = false
  stmts_call_one such (tree.Then first rest) =
      stmt_calls_one such first || stmts_call_one such rest
