-- The peeks of a text in its order: a peek is named by its number among them.
use Rattle.std.specs.Prelude.{List, [], ◌∷◌, ◌++◌, Option, Some, None}
use Rattle.strc_parse_tree.specs.Tree as tree

abbrev mutual
  -- the indices of the peeks of an expression; a peek comes after those in its index
  pub peeks_of_expr : tree.Expr → List tree.Expr
  peeks_of_expr (tree.Number value) = []
  peeks_of_expr (tree.Truth value) = []
  peeks_of_expr (tree.Read name) = []
  peeks_of_expr (tree.Element name index) = peeks_of_expr index
  peeks_of_expr tree.Pop = []
  peeks_of_expr (tree.Peek index) = peeks_of_expr index ++ index ∷ []
  peeks_of_expr (tree.Call name arguments) = peeks_of_arguments arguments
  peeks_of_expr (tree.Group inner) = peeks_of_expr inner
  peeks_of_expr (tree.Unary operator operand) = peeks_of_expr operand
  peeks_of_expr (tree.Step operator name) = []
  peeks_of_expr (tree.StepElement operator name index) = peeks_of_expr index
  peeks_of_expr (tree.Binary operator left right) = peeks_of_expr left ++ peeks_of_expr right
  peeks_of_expr (tree.Conditional condition chosen other) =
      peeks_of_expr condition ++ (peeks_of_expr chosen ++ peeks_of_expr other)

  -- the indices of the peeks of arguments
  pub peeks_of_arguments : tree.Arguments → List tree.Expr
  peeks_of_arguments tree.NoArgument = []
  peeks_of_arguments (tree.Argument first rest) = peeks_of_expr first ++ peeks_of_arguments rest

abbrev pub peeks_of_option : Option tree.Expr → List tree.Expr
peeks_of_option None = []
peeks_of_option (Some value) = peeks_of_expr value

abbrev pub peeks_of_variables : List tree.Variable → List tree.Expr
peeks_of_variables [] = []
peeks_of_variables (first ∷ rest) = peeks_of_option first.initial ++ peeks_of_variables rest

abbrev mutual
  -- the indices of the peeks of a statement
  pub peeks_of_stmt : tree.Stmt → List tree.Expr
  peeks_of_stmt tree.Empty = []
  peeks_of_stmt (tree.Compose statement) = []
  peeks_of_stmt (tree.Return value) = []
  peeks_of_stmt (tree.Block body) = peeks_of body
  peeks_of_stmt (tree.Declare kind variables) = peeks_of_variables variables
  peeks_of_stmt (tree.Evaluate value) = peeks_of_expr value
  peeks_of_stmt (tree.Assign name operator value) = peeks_of_expr value
  peeks_of_stmt (tree.AssignElement name index operator value) =
      peeks_of_expr index ++ peeks_of_expr value
  peeks_of_stmt (tree.If condition chosen) = peeks_of_expr condition ++ peeks_of_stmt chosen
  peeks_of_stmt (tree.IfElse condition chosen other) =
      peeks_of_expr condition ++ (peeks_of_stmt chosen ++ peeks_of_stmt other)
  peeks_of_stmt (tree.While condition body) = peeks_of_expr condition ++ peeks_of_stmt body
  peeks_of_stmt (tree.For first condition step body) =
      peeks_of_stmt first
      ++ (peeks_of_option condition ++ (peeks_of_stmt step ++ peeks_of_stmt body))
  peeks_of_stmt (tree.Push value) = peeks_of_expr value
  peeks_of_stmt (tree.Print value) = peeks_of_expr value
  peeks_of_stmt (tree.Println value) = peeks_of_expr value

  -- the indices of the peeks of statements in a row
  pub peeks_of : tree.Stmts → List tree.Expr
  peeks_of tree.Done = []
  peeks_of (tree.Then first rest) = peeks_of_stmt first ++ peeks_of rest
