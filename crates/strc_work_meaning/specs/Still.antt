-- Whether a text takes, looks at or gives items.
use Rattle.std.specs.Prelude.{Bool, true, false, ◌||◌, List, [], ◌∷◌, Option, Some, None}
use Rattle.strc_parse_tree.specs.Tree as tree

abbrev mutual
  -- whether an expression pops or peeks
  pub expr_moves : tree.Expr → Bool
  expr_moves (tree.Number value) = false
  expr_moves (tree.Truth value) = false
  expr_moves (tree.Read name) = false
  expr_moves (tree.Element name index) = expr_moves index
  expr_moves tree.Pop = true
  expr_moves (tree.Peek index) = true
  expr_moves (tree.Call name arguments) = arguments_move arguments
  expr_moves (tree.Group inner) = expr_moves inner
  expr_moves (tree.Unary operator operand) = expr_moves operand
  expr_moves (tree.Step operator name) = false
  expr_moves (tree.StepElement operator name index) = expr_moves index
  expr_moves (tree.Binary operator left right) = expr_moves left || expr_moves right
  expr_moves (tree.Conditional condition chosen other) =
      expr_moves condition || (expr_moves chosen || expr_moves other)

  -- whether one of the arguments does
  pub arguments_move : tree.Arguments → Bool
  arguments_move tree.NoArgument = false
  arguments_move (tree.Argument first rest) = expr_moves first || arguments_move rest

-- whether an initialiser, a condition or a returned value does, where there is one
abbrev pub option_moves : Option tree.Expr → Bool
option_moves None = false
option_moves (Some value) = expr_moves value

-- whether the initialiser of one of these variables does
abbrev pub variables_move : List tree.Variable → Bool
variables_move [] = false
variables_move (first ∷ rest) = option_moves first.initial || variables_move rest

abbrev mutual
  -- whether a statement pops, peeks or pushes
  pub stmt_moves : tree.Stmt → Bool
  stmt_moves tree.Empty = false
  stmt_moves (tree.Compose statement) = false
  stmt_moves (tree.Block body) = stmts_move body
  stmt_moves (tree.Declare kind variables) = variables_move variables
  stmt_moves (tree.Evaluate value) = expr_moves value
  stmt_moves (tree.Assign name operator value) = expr_moves value
  stmt_moves (tree.AssignElement name index operator value) = expr_moves index || expr_moves value
  stmt_moves (tree.If condition chosen) = expr_moves condition || stmt_moves chosen
  stmt_moves (tree.IfElse condition chosen other) =
      expr_moves condition || (stmt_moves chosen || stmt_moves other)
  stmt_moves (tree.While condition body) = expr_moves condition || stmt_moves body
  stmt_moves (tree.For first condition step body) =
      stmt_moves first || (option_moves condition || (stmt_moves step || stmt_moves body))
  stmt_moves (tree.Push value) = true
  stmt_moves (tree.Print value) = expr_moves value
  stmt_moves (tree.Println value) = expr_moves value
  stmt_moves (tree.Return value) = option_moves value

  -- whether one of the statements does
  pub stmts_move : tree.Stmts → Bool
  stmts_move tree.Done = false
  stmts_move (tree.Then first rest) = stmt_moves first || stmts_move rest
