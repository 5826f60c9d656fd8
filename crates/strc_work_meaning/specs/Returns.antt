-- Where a helper returns before its end, and what would shadow or write its answer.
use Rattle.std.specs.Prelude.{ℕ, Bool, true, false, ◌||◌, List, [], ◌∷◌, Option, Some, None}
use Rattle.std.specs.Prelude.{bytes_eq}
use Rattle.strc_parse_tree.specs.Tree as tree
use Rattle.strc_work_meaning.specs.Scoping.{answer_name}

abbrev mutual
  -- whether a `return` stands in a statement
  pub stmt_returns : tree.Stmt → Bool
  stmt_returns tree.Empty = false
  stmt_returns (tree.Compose statement) = false
  stmt_returns (tree.Block body) = stmts_return body
  stmt_returns (tree.Declare kind variables) = false
  stmt_returns (tree.Evaluate value) = false
  stmt_returns (tree.Assign name operator value) = false
  stmt_returns (tree.AssignElement name index operator value) = false
  stmt_returns (tree.If condition chosen) = stmt_returns chosen
  stmt_returns (tree.IfElse condition chosen other) = stmt_returns chosen || stmt_returns other
  stmt_returns (tree.While condition body) = stmt_returns body
  stmt_returns (tree.For first condition step body) =
      stmt_returns first || (stmt_returns step || stmt_returns body)
  stmt_returns (tree.Push value) = false
  stmt_returns (tree.Print value) = false
  stmt_returns (tree.Println value) = false
  stmt_returns (tree.Return value) = true

  -- whether a `return` stands in one of the statements
  pub stmts_return : tree.Stmts → Bool
  stmts_return tree.Done = false
  stmts_return (tree.Then first rest) = stmt_returns first || stmts_return rest

-- whether one of these names is the answer's
abbrev pub names_shadow : List (List ℕ) → Bool
names_shadow [] = false
names_shadow (first ∷ rest) = bytes_eq first answer_name || names_shadow rest

-- whether one of these variables has the answer's name
abbrev pub variables_shadow : List tree.Variable → Bool
variables_shadow [] = false
variables_shadow (first ∷ rest) = bytes_eq first.name answer_name || variables_shadow rest

abbrev mutual
  -- whether a variable of the answer's name is declared in a statement
  pub stmt_shadows : tree.Stmt → Bool
  stmt_shadows tree.Empty = false
  stmt_shadows (tree.Compose statement) = false
  stmt_shadows (tree.Block body) = stmts_shadow body
  stmt_shadows (tree.Declare kind variables) = variables_shadow variables
  stmt_shadows (tree.Evaluate value) = false
  stmt_shadows (tree.Assign name operator value) = false
  stmt_shadows (tree.AssignElement name index operator value) = false
  stmt_shadows (tree.If condition chosen) = stmt_shadows chosen
  stmt_shadows (tree.IfElse condition chosen other) = stmt_shadows chosen || stmt_shadows other
  stmt_shadows (tree.While condition body) = stmt_shadows body
  stmt_shadows (tree.For first condition step body) =
      stmt_shadows first || (stmt_shadows step || stmt_shadows body)
  stmt_shadows (tree.Push value) = false
  stmt_shadows (tree.Print value) = false
  stmt_shadows (tree.Println value) = false
  stmt_shadows (tree.Return value) = false

  -- whether one is declared in one of the statements
  pub stmts_shadow : tree.Stmts → Bool
  stmts_shadow tree.Done = false
  stmts_shadow (tree.Then first rest) = stmt_shadows first || stmts_shadow rest

abbrev mutual
  -- whether an expression writes the answer
  pub expr_answers : tree.Expr → Bool
  expr_answers (tree.Number value) = false
  expr_answers (tree.Truth value) = false
  expr_answers (tree.Read name) = false
  expr_answers (tree.Element name index) = expr_answers index
  expr_answers tree.Pop = false
  expr_answers (tree.Peek index) = expr_answers index
  expr_answers (tree.Call name arguments) = arguments_answer arguments
  expr_answers (tree.Group inner) = expr_answers inner
  expr_answers (tree.Unary operator operand) = expr_answers operand
  expr_answers (tree.Step operator name) = bytes_eq answer_name name
  expr_answers (tree.StepElement operator name index) =
      bytes_eq answer_name name || expr_answers index
  expr_answers (tree.Binary operator left right) = expr_answers left || expr_answers right
  expr_answers (tree.Conditional condition chosen other) =
      expr_answers condition || (expr_answers chosen || expr_answers other)

  -- whether one of the arguments writes it
  pub arguments_answer : tree.Arguments → Bool
  arguments_answer tree.NoArgument = false
  arguments_answer (tree.Argument first rest) = expr_answers first || arguments_answer rest

-- whether an initialiser, a condition or a returned value writes it, where there is one
abbrev pub option_answers : Option tree.Expr → Bool
option_answers None = false
option_answers (Some value) = expr_answers value

-- whether the initialiser of one of these variables writes it
abbrev pub variables_answer : List tree.Variable → Bool
variables_answer [] = false
variables_answer (first ∷ rest) = option_answers first.initial || variables_answer rest

abbrev mutual
  -- whether a statement writes the answer otherwise than by a `return`
  pub stmt_answers : tree.Stmt → Bool
  stmt_answers tree.Empty = false
  stmt_answers (tree.Compose statement) = false
  stmt_answers (tree.Block body) = stmts_answer body
  stmt_answers (tree.Declare kind variables) = variables_answer variables
  stmt_answers (tree.Evaluate value) = expr_answers value
  stmt_answers (tree.Assign name operator value) = bytes_eq answer_name name || expr_answers value
  stmt_answers (tree.AssignElement name index operator value) =
      bytes_eq answer_name name || (expr_answers index || expr_answers value)
  stmt_answers (tree.If condition chosen) = expr_answers condition || stmt_answers chosen
  stmt_answers (tree.IfElse condition chosen other) =
      expr_answers condition || (stmt_answers chosen || stmt_answers other)
  stmt_answers (tree.While condition body) = expr_answers condition || stmt_answers body
  stmt_answers (tree.For first condition step body) =
      stmt_answers first || (option_answers condition || (stmt_answers step || stmt_answers body))
  stmt_answers (tree.Push value) = expr_answers value
  stmt_answers (tree.Print value) = expr_answers value
  stmt_answers (tree.Println value) = expr_answers value
  stmt_answers (tree.Return value) = option_answers value

  -- whether one of the statements writes it
  pub stmts_answer : tree.Stmts → Bool
  stmts_answer tree.Done = false
  stmts_answer (tree.Then first rest) = stmt_answers first || stmts_answer rest
