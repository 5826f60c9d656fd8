-- The grammar: which tokens spell a tree, which trees are well shaped, and how high they are.
use Rattle.std.specs.Prelude.{◌≡◌, ℕ, ◌+◌, ◌<◌, ◌≤◌, max, Bool, true, false, List, [], ◌∷◌, length}
use Rattle.std.specs.Prelude.{map, Option, Some, None, Result, Ok, Err}
use Rattle.std.specs.List.{AllByRecursion}
use Rattle.strc_lex.specs.declared.token.Token.{Token}
use Rattle.strc_lex.specs.declared.token.TokenKind.{TokenKind}
use Rattle.strc_lex.specs.declared.token.TokenKind.TheVariants as token
use Rattle.strc_lex.specs.declared.token.Keyword.TheVariants as keyword
use Rattle.strc_lex.specs.declared.token.Punctuation.{Punctuation}
use Rattle.strc_lex.specs.declared.token.Punctuation.TheVariants as punctuation
use Rattle.strc_parse_tree.specs.declared.tree.ItemType.{ItemType}
use Rattle.strc_parse_tree.specs.declared.tree.ItemType.TheVariants as item
use Rattle.strc_parse_tree.specs.declared.tree.StreamType.{StreamType}
use Rattle.strc_parse_tree.specs.declared.tree.CompositeKind.{CompositeKind}
use Rattle.strc_parse_tree.specs.declared.tree.CompositeKind.TheVariants as composite
use Rattle.strc_parse_tree.specs.declared.tree.Role.{Role}
use Rattle.strc_parse_tree.specs.declared.tree.Role.TheVariants as role
use Rattle.strc_parse_tree.specs.declared.tree.Brackets.{Brackets}
use Rattle.strc_parse_tree.specs.declared.tree.Brackets.TheVariants as brackets
use Rattle.strc_parse_tree.specs.declared.tree.RateKind.{RateKind}
use Rattle.strc_parse_tree.specs.declared.tree.RateKind.TheVariants as rate
use Rattle.strc_parse_tree.specs.declared.tree.HelperType.{HelperType}
use Rattle.strc_parse_tree.specs.declared.tree.HelperType.TheVariants as helper
use Rattle.strc_parse_tree.specs.declared.tree.AssignOperator.{AssignOperator}
use Rattle.strc_parse_tree.specs.declared.tree.AssignOperator.TheVariants as assign
use Rattle.strc_parse_tree.specs.declared.tree.UnaryOperator.{UnaryOperator}
use Rattle.strc_parse_tree.specs.declared.tree.UnaryOperator.TheVariants as unary
use Rattle.strc_parse_tree.specs.declared.tree.StepOperator.{StepOperator}
use Rattle.strc_parse_tree.specs.declared.tree.StepOperator.TheVariants as step
use Rattle.strc_parse_tree.specs.declared.tree.BinaryOperator.{BinaryOperator}
use Rattle.strc_parse_tree.specs.declared.tree.BinaryOperator.TheVariants as binary
use Rattle.strc_parse_tree.specs.declared.tree.Program.{Program}
use Rattle.strc_parse_grammar.specs.declared.error.ParseError.{ParseError}
use Rattle.strc_parse_grammar.specs.declared.height.TheConstants.{HEIGHT_LIMIT}
use Rattle.strc_parse_grammar.specs.declared.error.ParseError.TheVariants as refusal
use Rattle.strc_parse_tree.specs.Tree as tree
use Rattle.strc_parse_tree.specs.View.{program_view}

-- the kinds of tokens, without their places
abbrev pub kinds : List Token → List TokenKind
kinds tokens = map (λ t. t.kind) tokens

-- ---- the tokens of a tree

abbrev pub unary_punctuation : UnaryOperator → Punctuation
unary_punctuation unary.Negate = punctuation.Minus
unary_punctuation unary.Not = punctuation.Not
unary_punctuation unary.Complement = punctuation.Tilde

abbrev pub binary_punctuation : BinaryOperator → Punctuation
binary_punctuation binary.LogicalOr = punctuation.OrOr
binary_punctuation binary.LogicalAnd = punctuation.AndAnd
binary_punctuation binary.Or = punctuation.Or
binary_punctuation binary.ExclusiveOr = punctuation.Caret
binary_punctuation binary.And = punctuation.And
binary_punctuation binary.Equal = punctuation.Equal
binary_punctuation binary.NotEqual = punctuation.NotEqual
binary_punctuation binary.Less = punctuation.Less
binary_punctuation binary.LessOrEqual = punctuation.LessEqual
binary_punctuation binary.Greater = punctuation.Greater
binary_punctuation binary.GreaterOrEqual = punctuation.GreaterEqual
binary_punctuation binary.ShiftLeft = punctuation.ShiftLeft
binary_punctuation binary.ShiftRight = punctuation.ShiftRight
binary_punctuation binary.Add = punctuation.Plus
binary_punctuation binary.Subtract = punctuation.Minus
binary_punctuation binary.Multiply = punctuation.Star
binary_punctuation binary.Divide = punctuation.Slash
binary_punctuation binary.Remainder = punctuation.Percent

abbrev pub assign_punctuation : AssignOperator → Punctuation
assign_punctuation assign.Set = punctuation.Assign
assign_punctuation assign.Add = punctuation.PlusAssign
assign_punctuation assign.Subtract = punctuation.MinusAssign
assign_punctuation assign.Multiply = punctuation.StarAssign
assign_punctuation assign.Divide = punctuation.SlashAssign
assign_punctuation assign.Remainder = punctuation.PercentAssign

-- a variable or an element with its step, before what follows
abbrev pub step_spelled : StepOperator → (List TokenKind → List TokenKind) → List TokenKind
    → List TokenKind
step_spelled step.IncrementFirst target rest = token.Punctuation punctuation.PlusPlus ∷ target rest
step_spelled step.DecrementFirst target rest =
    token.Punctuation punctuation.MinusMinus ∷ target rest
step_spelled step.IncrementAfter target rest =
    target (token.Punctuation punctuation.PlusPlus ∷ rest)
step_spelled step.DecrementAfter target rest =
    target (token.Punctuation punctuation.MinusMinus ∷ rest)

abbrev pub truth_keyword : Bool → TokenKind
truth_keyword true = token.Keyword keyword.True
truth_keyword false = token.Keyword keyword.False

abbrev mutual
  -- the tokens of an expression, before what follows
  pub expr_spelled : tree.Expr → List TokenKind → List TokenKind
  expr_spelled (tree.Number value) rest = token.Number value ∷ rest
  expr_spelled (tree.Truth value) rest = truth_keyword value ∷ rest
  expr_spelled (tree.Read name) rest = token.Name name ∷ rest
  expr_spelled (tree.Element name index) rest =
      token.Name name ∷ token.Punctuation punctuation.OpenBracket
      ∷ expr_spelled index (token.Punctuation punctuation.CloseBracket ∷ rest)
  expr_spelled tree.Pop rest = token.Keyword keyword.Pop ∷ token.Punctuation punctuation.OpenParen
      ∷ token.Punctuation punctuation.CloseParen ∷ rest
  expr_spelled (tree.Peek index) rest =
      token.Keyword keyword.Peek ∷ token.Punctuation punctuation.OpenParen
      ∷ expr_spelled index (token.Punctuation punctuation.CloseParen ∷ rest)
  expr_spelled (tree.Call name arguments) rest =
      token.Name name ∷ token.Punctuation punctuation.OpenParen
      ∷ given_spelled arguments (token.Punctuation punctuation.CloseParen ∷ rest)
  expr_spelled (tree.Group inner) rest = token.Punctuation punctuation.OpenParen
      ∷ expr_spelled inner (token.Punctuation punctuation.CloseParen ∷ rest)
  expr_spelled (tree.Unary operator operand) rest =
      token.Punctuation (unary_punctuation operator) ∷ expr_spelled operand rest
  expr_spelled (tree.Step operator name) rest =
      step_spelled operator (λ after. token.Name name ∷ after) rest
  expr_spelled (tree.StepElement operator name index) rest =
      step_spelled operator (λ after. token.Name name ∷ token.Punctuation punctuation.OpenBracket
      ∷ expr_spelled index (token.Punctuation punctuation.CloseBracket ∷ after)) rest
  expr_spelled (tree.Binary operator left right) rest =
      expr_spelled left (token.Punctuation (binary_punctuation operator) ∷ expr_spelled right rest)
  expr_spelled (tree.Conditional condition chosen other) rest =
      expr_spelled condition (token.Punctuation punctuation.Question
      ∷ expr_spelled chosen (token.Punctuation punctuation.Colon ∷ expr_spelled other rest))

  -- the arguments of a call, with commas between them
  pub given_spelled : tree.Arguments → List TokenKind → List TokenKind
  given_spelled tree.NoArgument rest = rest
  given_spelled (tree.Argument first others) rest =
      expr_spelled first (further_spelled others rest)

  -- further arguments, each after its comma
  pub further_spelled : tree.Arguments → List TokenKind → List TokenKind
  further_spelled tree.NoArgument rest = rest
  further_spelled (tree.Argument first others) rest = token.Punctuation punctuation.Comma
      ∷ expr_spelled first (further_spelled others rest)

-- trees in a row, each as it is spelled
abbrev pub each_spelled : {A : Type 0} → (A → List TokenKind → List TokenKind) → List A
    → List TokenKind → List TokenKind
each_spelled spelled [] rest = rest
each_spelled spelled (first ∷ others) rest = spelled first (each_spelled spelled others rest)

-- `boolean`, `int` or `int[n]`
abbrev pub type_spelled : tree.VariableType → List TokenKind → List TokenKind
type_spelled tree.Boolean rest = token.Keyword keyword.Boolean ∷ rest
type_spelled tree.Int rest = token.Keyword keyword.Int ∷ rest
type_spelled (tree.Array count) rest = token.Keyword keyword.Int
    ∷ token.Punctuation punctuation.OpenBracket
    ∷ expr_spelled count (token.Punctuation punctuation.CloseBracket ∷ rest)

-- `= e`, or nothing
abbrev pub initial_spelled : Option tree.Expr → List TokenKind → List TokenKind
initial_spelled None rest = rest
initial_spelled (Some initial) rest = token.Punctuation punctuation.Assign
    ∷ expr_spelled initial rest

-- `x` or `x = e`
abbrev pub variable_spelled : tree.Variable → List TokenKind → List TokenKind
variable_spelled variable rest = token.Name variable.name ∷ initial_spelled variable.initial rest

-- a further variable, after its comma
abbrev pub next_spelled : tree.Variable → List TokenKind → List TokenKind
next_spelled variable rest = token.Punctuation punctuation.Comma ∷ variable_spelled variable rest

-- variables with commas between them
abbrev pub variables_spelled : List tree.Variable → List TokenKind → List TokenKind
variables_spelled [] rest = rest
variables_spelled (first ∷ others) rest =
    variable_spelled first (each_spelled next_spelled others rest)

-- `int x = 1, y`
abbrev pub declared_spelled : tree.VariableType → List tree.Variable → List TokenKind
    → List TokenKind
declared_spelled kind variables rest = type_spelled kind (variables_spelled variables rest)

-- A statement without its semicolon. No other form has one.
abbrev pub part_spelled : tree.Stmt → List TokenKind → List TokenKind
part_spelled (tree.Declare kind variables) rest = declared_spelled kind variables rest
part_spelled (tree.Evaluate value) rest = expr_spelled value rest
part_spelled (tree.Assign name operator value) rest =
    token.Name name ∷ token.Punctuation (assign_punctuation operator) ∷ expr_spelled value rest
part_spelled (tree.AssignElement name index operator value) rest =
    token.Name name ∷ token.Punctuation punctuation.OpenBracket
    ∷ expr_spelled index (token.Punctuation punctuation.CloseBracket
    ∷ token.Punctuation (assign_punctuation operator) ∷ expr_spelled value rest)
part_spelled _ rest = rest

-- an expression, or nothing
abbrev pub optional_spelled : Option tree.Expr → List TokenKind → List TokenKind
optional_spelled None rest = rest
optional_spelled (Some value) rest = expr_spelled value rest

-- `(e)`
abbrev pub bracketed_spelled : tree.Expr → List TokenKind → List TokenKind
bracketed_spelled value rest = token.Punctuation punctuation.OpenParen
    ∷ expr_spelled value (token.Punctuation punctuation.CloseParen ∷ rest)

-- `(first; condition; step)`
abbrev pub heading_spelled : tree.Stmt → Option tree.Expr → tree.Stmt → List TokenKind
    → List TokenKind
heading_spelled first condition step rest =
    token.Punctuation punctuation.OpenParen
    ∷ part_spelled first (token.Punctuation punctuation.Semicolon
    ∷ optional_spelled condition (token.Punctuation punctuation.Semicolon
    ∷ part_spelled step (token.Punctuation punctuation.CloseParen ∷ rest)))

-- `()`, or nothing
abbrev pub brackets_spelled : Brackets → List TokenKind → List TokenKind
brackets_spelled brackets.Written rest = token.Punctuation punctuation.OpenParen
    ∷ token.Punctuation punctuation.CloseParen ∷ rest
brackets_spelled brackets.Missing rest = rest

-- a further expression, after its comma
abbrev pub next_argument_spelled : tree.Expr → List TokenKind → List TokenKind
next_argument_spelled argument rest = token.Punctuation punctuation.Comma
    ∷ expr_spelled argument rest

-- expressions with commas between them
abbrev pub listed_spelled : List tree.Expr → List TokenKind → List TokenKind
listed_spelled [] rest = rest
listed_spelled (first ∷ others) rest = expr_spelled first
    (each_spelled next_argument_spelled others rest)

-- `(1, 2)`, or nothing
abbrev pub arguments_spelled : Option (List tree.Expr) → List TokenKind → List TokenKind
arguments_spelled None rest = rest
arguments_spelled (Some arguments) rest =
    token.Punctuation punctuation.OpenParen
    ∷ listed_spelled arguments (token.Punctuation punctuation.CloseParen ∷ rest)

-- `duplicate`, or `roundrobin` with its weights
abbrev pub splitter_spelled : tree.Splitter → List TokenKind → List TokenKind
splitter_spelled (tree.Duplicate pair) rest =
    token.Keyword keyword.Duplicate ∷ brackets_spelled pair rest
splitter_spelled (tree.Roundrobin weights) rest =
    token.Keyword keyword.Roundrobin ∷ arguments_spelled weights rest

abbrev pub role_keyword : Role → TokenKind
role_keyword role.Add = token.Keyword keyword.Add
role_keyword role.Body = token.Keyword keyword.Body
role_keyword role.Loop = token.Keyword keyword.Loop

abbrev pub kind_keyword : CompositeKind → TokenKind
kind_keyword composite.Pipeline = token.Keyword keyword.Pipeline
kind_keyword composite.Splitjoin = token.Keyword keyword.Splitjoin
kind_keyword composite.Feedbackloop = token.Keyword keyword.Feedbackloop

abbrev pub type_keyword : ItemType → TokenKind
type_keyword item.Int = token.Keyword keyword.Int
type_keyword item.Void = token.Keyword keyword.Void

-- `int->void`
abbrev pub stream_type_spelled : StreamType → List TokenKind → List TokenKind
stream_type_spelled types rest = type_keyword types.input ∷ token.Punctuation punctuation.Arrow
    ∷ type_keyword types.output ∷ rest

-- the type of an anonymous stream, or nothing
abbrev pub found_type_spelled : Option StreamType → List TokenKind → List TokenKind
found_type_spelled None rest = rest
found_type_spelled (Some types) rest = stream_type_spelled types rest

-- `<int>`
abbrev pub int_items_spelled : List TokenKind → List TokenKind
int_items_spelled rest = token.Punctuation punctuation.Less ∷ token.Keyword keyword.Int
    ∷ token.Punctuation punctuation.Greater ∷ rest

-- `<int>("numbers");`
abbrev pub file_spelled : List ℕ → List TokenKind → List TokenKind
file_spelled text rest =
    int_items_spelled (token.Punctuation punctuation.OpenParen ∷ token.StringLiteral text
    ∷ token.Punctuation punctuation.CloseParen ∷ token.Punctuation punctuation.Semicolon ∷ rest)

abbrev pub rate_keyword : RateKind → TokenKind
rate_keyword rate.Push = token.Keyword keyword.Push
rate_keyword rate.Pop = token.Keyword keyword.Pop
rate_keyword rate.Peek = token.Keyword keyword.Peek

-- `push 1`
abbrev pub rate_spelled : tree.Rate → List TokenKind → List TokenKind
rate_spelled written rest = rate_keyword written.kind ∷ expr_spelled written.rate rest

-- a parameter: `int n`
abbrev pub parameter_spelled : List ℕ → List TokenKind → List TokenKind
parameter_spelled name rest = token.Keyword keyword.Int ∷ token.Name name ∷ rest

-- a further parameter, after its comma
abbrev pub next_parameter_spelled : List ℕ → List TokenKind → List TokenKind
next_parameter_spelled name rest = token.Punctuation punctuation.Comma ∷ parameter_spelled name rest

-- parameters with commas between them
abbrev pub listed_parameters_spelled : List (List ℕ) → List TokenKind → List TokenKind
listed_parameters_spelled [] rest = rest
listed_parameters_spelled (first ∷ others) rest =
    parameter_spelled first (each_spelled next_parameter_spelled others rest)

-- `(int n, int m)`, or nothing
abbrev pub parameters_spelled : Option (List (List ℕ)) → List TokenKind → List TokenKind
parameters_spelled None rest = rest
parameters_spelled (Some parameters) rest =
    token.Punctuation punctuation.OpenParen
    ∷ listed_parameters_spelled parameters (token.Punctuation punctuation.CloseParen ∷ rest)

abbrev pub helper_keyword : HelperType → TokenKind
helper_keyword helper.Int = token.Keyword keyword.Int
helper_keyword helper.Boolean = token.Keyword keyword.Boolean
helper_keyword helper.Void = token.Keyword keyword.Void

abbrev mutual
  -- the tokens of a statement, before what follows
  pub stmt_spelled : tree.Stmt → List TokenKind → List TokenKind
  stmt_spelled tree.Empty rest = part_spelled tree.Empty
      (token.Punctuation punctuation.Semicolon ∷ rest)
  stmt_spelled (tree.Block body) rest = token.Punctuation punctuation.OpenBrace
      ∷ row_spelled body (token.Punctuation punctuation.CloseBrace ∷ rest)
  stmt_spelled (tree.Declare kind variables) rest =
      part_spelled (tree.Declare kind variables) (token.Punctuation punctuation.Semicolon ∷ rest)
  stmt_spelled (tree.Evaluate value) rest =
      part_spelled (tree.Evaluate value) (token.Punctuation punctuation.Semicolon ∷ rest)
  stmt_spelled (tree.Assign name operator value) rest =
      part_spelled (tree.Assign name operator value)
      (token.Punctuation punctuation.Semicolon ∷ rest)
  stmt_spelled (tree.AssignElement name index operator value) rest =
      part_spelled (tree.AssignElement name index operator value)
      (token.Punctuation punctuation.Semicolon ∷ rest)
  stmt_spelled (tree.If condition chosen) rest =
      token.Keyword keyword.If ∷ bracketed_spelled condition (stmt_spelled chosen rest)
  stmt_spelled (tree.IfElse condition chosen other) rest =
      token.Keyword keyword.If ∷ bracketed_spelled condition
      (stmt_spelled chosen (token.Keyword keyword.Else ∷ stmt_spelled other rest))
  stmt_spelled (tree.While condition body) rest =
      token.Keyword keyword.While ∷ bracketed_spelled condition (stmt_spelled body rest)
  stmt_spelled (tree.For first condition step body) rest =
      token.Keyword keyword.For ∷ heading_spelled first condition step (stmt_spelled body rest)
  stmt_spelled (tree.Push value) rest = token.Keyword keyword.Push
      ∷ bracketed_spelled value (token.Punctuation punctuation.Semicolon ∷ rest)
  stmt_spelled (tree.Print value) rest = token.Keyword keyword.Print
      ∷ bracketed_spelled value (token.Punctuation punctuation.Semicolon ∷ rest)
  stmt_spelled (tree.Println value) rest =
      token.Keyword keyword.Println ∷ bracketed_spelled value
      (token.Punctuation punctuation.Semicolon ∷ rest)
  stmt_spelled (tree.Return value) rest = token.Keyword keyword.Return
      ∷ optional_spelled value (token.Punctuation punctuation.Semicolon ∷ rest)
  stmt_spelled (tree.Compose statement) rest = composition_spelled statement rest

  -- the statements of a block, without its braces
  pub row_spelled : tree.Stmts → List TokenKind → List TokenKind
  row_spelled tree.Done rest = rest
  row_spelled (tree.Then first others) rest = stmt_spelled first (row_spelled others rest)

  -- a statement of a composite stream; `enqueue` has no brackets of its own
  pub composition_spelled : tree.Composition → List TokenKind → List TokenKind
  composition_spelled (tree.ChildOf role child) rest = role_keyword role ∷ child_spelled child rest
  composition_spelled (tree.Split splitter) rest =
      token.Keyword keyword.Split ∷ splitter_spelled splitter
      (token.Punctuation punctuation.Semicolon ∷ rest)
  composition_spelled (tree.Join weights) rest =
      token.Keyword keyword.Join ∷ token.Keyword keyword.Roundrobin
      ∷ arguments_spelled weights (token.Punctuation punctuation.Semicolon ∷ rest)
  composition_spelled (tree.Enqueue value) rest =
      token.Keyword keyword.Enqueue ∷ expr_spelled value
      (token.Punctuation punctuation.Semicolon ∷ rest)

  -- a child: a named one has a semicolon, an anonymous one ends at its brace
  pub child_spelled : tree.Child → List TokenKind → List TokenKind
  child_spelled (tree.Named name arguments) rest =
      token.Name name ∷ arguments_spelled arguments (token.Punctuation punctuation.Semicolon ∷ rest)
  child_spelled (tree.Identity pair) rest =
      token.Keyword keyword.Identity ∷ int_items_spelled
      (brackets_spelled pair (token.Punctuation punctuation.Semicolon ∷ rest))
  child_spelled (tree.FileReader text) rest =
      token.Keyword keyword.FileReader ∷ file_spelled text rest
  child_spelled (tree.FileWriter text) rest =
      token.Keyword keyword.FileWriter ∷ file_spelled text rest
  child_spelled (tree.AnonymousFilter types members) rest =
      stream_type_spelled types (token.Keyword keyword.Filter
      ∷ token.Punctuation punctuation.OpenBrace
      ∷ members_spelled members (token.Punctuation punctuation.CloseBrace ∷ rest))
  child_spelled (tree.AnonymousComposite types kind block) rest =
      found_type_spelled types (kind_keyword kind ∷ token.Punctuation punctuation.OpenBrace
      ∷ row_spelled block (token.Punctuation punctuation.CloseBrace ∷ rest))

  -- a part of a filter
  pub member_spelled : tree.Member → List TokenKind → List TokenKind
  member_spelled (tree.Fields kind variables) rest =
      declared_spelled kind variables (token.Punctuation punctuation.Semicolon ∷ rest)
  member_spelled (tree.Init block) rest =
      token.Keyword keyword.Init ∷ token.Punctuation punctuation.OpenBrace
      ∷ row_spelled block (token.Punctuation punctuation.CloseBrace ∷ rest)
  member_spelled (tree.Prework rates block) rest =
      token.Keyword keyword.Prework ∷ each_spelled rate_spelled rates
      (token.Punctuation punctuation.OpenBrace
      ∷ row_spelled block (token.Punctuation punctuation.CloseBrace ∷ rest))
  member_spelled (tree.Work rates block) rest =
      token.Keyword keyword.Work ∷ each_spelled rate_spelled rates
      (token.Punctuation punctuation.OpenBrace
      ∷ row_spelled block (token.Punctuation punctuation.CloseBrace ∷ rest))
  member_spelled (tree.Helper kind name parameters block) rest =
      helper_keyword kind ∷ token.Name name ∷ parameters_spelled (Some parameters)
      (token.Punctuation punctuation.OpenBrace
      ∷ row_spelled block (token.Punctuation punctuation.CloseBrace ∷ rest))

  pub members_spelled : tree.Members → List TokenKind → List TokenKind
  members_spelled tree.NoMember rest = rest
  members_spelled (tree.And first others) rest = member_spelled first (members_spelled others rest)

-- a block with its braces
abbrev pub block_spelled : tree.Stmts → List TokenKind → List TokenKind
block_spelled block rest = token.Punctuation punctuation.OpenBrace
    ∷ row_spelled block (token.Punctuation punctuation.CloseBrace ∷ rest)

-- a named stream
abbrev pub stream_spelled : List ℕ → Option (List (List ℕ)) → tree.Stream → List TokenKind
    → List TokenKind
stream_spelled name parameters (tree.Filter input output members) rest =
    stream_type_spelled (record { input = input; output = output })
    (token.Keyword keyword.Filter ∷ token.Name name
    ∷ parameters_spelled parameters (token.Punctuation punctuation.OpenBrace
    ∷ each_spelled member_spelled members (token.Punctuation punctuation.CloseBrace ∷ rest)))
stream_spelled name parameters (tree.Composite types kind block) rest =
    stream_type_spelled types
    (kind_keyword kind ∷ token.Name name ∷ parameters_spelled parameters (block_spelled block rest))

abbrev pub declaration_spelled : tree.Declaration → List TokenKind → List TokenKind
declaration_spelled declaration rest = stream_spelled declaration.name declaration.parameters
    declaration.stream rest

-- the tokens of a program
abbrev pub spelling : List tree.Declaration → List TokenKind
spelling program = each_spelled declaration_spelled program []

-- ---- well-shaped trees

-- the precedence of an operator: the one that binds tightest has 1
abbrev pub precedence : BinaryOperator → ℕ
precedence binary.LogicalOr = 10
precedence binary.LogicalAnd = 9
precedence binary.Or = 8
precedence binary.ExclusiveOr = 7
precedence binary.And = 6
precedence binary.Equal = 5
precedence binary.NotEqual = 5
precedence binary.Less = 4
precedence binary.LessOrEqual = 4
precedence binary.Greater = 4
precedence binary.GreaterOrEqual = 4
precedence binary.ShiftLeft = 3
precedence binary.ShiftRight = 3
precedence binary.Add = 2
precedence binary.Subtract = 2
precedence binary.Multiply = 1
precedence binary.Divide = 1
precedence binary.Remainder = 1

-- the lowest precedence, which `c ? a : b` has
abbrev pub lowest_precedence : ℕ
lowest_precedence = 11

-- the rank of an expression: its operator's precedence, or 0 where nothing is between two
-- operands
abbrev pub rank : tree.Expr → ℕ
rank (tree.Binary operator left right) = precedence operator
rank (tree.Conditional condition chosen other) = lowest_precedence
rank _ = 0

-- A prefix operator takes an operand; a binary one takes no side of lower precedence, and on its
-- right none of equal precedence; the condition of `c ? a : b` is no such expression itself, and
-- its other two parts are any.
abbrev mutual
  pub IsExpr : tree.Expr → Type 0
  IsExpr (tree.Number value) = Unit {0}
  IsExpr (tree.Truth value) = Unit {0}
  IsExpr (tree.Read name) = Unit {0}
  IsExpr (tree.Element name index) = IsExpr index
  IsExpr tree.Pop = Unit {0}
  IsExpr (tree.Peek index) = IsExpr index
  IsExpr (tree.Call name arguments) = AreGiven arguments
  IsExpr (tree.Group inner) = IsExpr inner
  IsExpr (tree.Unary operator operand) = (rank operand ≡ 0) × IsExpr operand
  IsExpr (tree.Step operator name) = Unit {0}
  IsExpr (tree.StepElement operator name index) = IsExpr index
  IsExpr (tree.Binary operator left right) =
      (rank left ≤ precedence operator) × (rank right < precedence operator) × IsExpr left
      × IsExpr right
  IsExpr (tree.Conditional condition chosen other) =
      (rank condition < lowest_precedence) × IsExpr condition × IsExpr chosen × IsExpr other

  pub AreGiven : tree.Arguments → Type 0
  AreGiven tree.NoArgument = Unit {0}
  AreGiven (tree.Argument first others) = IsExpr first × AreGiven others

abbrev pub IsOptional : Option tree.Expr → Type 0
IsOptional None = Unit {0}
IsOptional (Some value) = IsExpr value

abbrev pub IsVariableType : tree.VariableType → Type 0
IsVariableType (tree.Array count) = IsExpr count
IsVariableType _ = Unit {0}

abbrev pub IsVariable : tree.Variable → Type 0
IsVariable variable = IsOptional variable.initial

-- at least one variable
abbrev pub AreVariables : List tree.Variable → Type 0
AreVariables [] = ⊥
AreVariables (first ∷ others) = IsVariable first × AllByRecursion IsVariable others

-- a statement that can be the step of a `for`
abbrev pub IsStep : tree.Stmt → Type 0
IsStep tree.Empty = Unit {0}
IsStep (tree.Evaluate value) = IsExpr value
IsStep (tree.Assign name operator value) = IsExpr value
IsStep (tree.AssignElement name index operator value) = IsExpr index × IsExpr value
IsStep _ = ⊥

-- a statement that can be the first part of a `for`
abbrev pub IsFirst : tree.Stmt → Type 0
IsFirst (tree.Declare kind variables) = IsVariableType kind × AreVariables variables
IsFirst other = IsStep other

-- whether an `else` after this statement belongs to an `if` that ends it
abbrev pub takes_else : tree.Stmt → Bool
takes_else (tree.If condition chosen) = true
takes_else (tree.IfElse condition chosen other) = takes_else other
takes_else (tree.While condition body) = takes_else body
takes_else (tree.For first condition step body) = takes_else body
takes_else _ = false

-- a rate keyword occurs at most once
abbrev pub AreRates : List tree.Rate → Type 0
AreRates [] = Unit {0}
AreRates (first ∷ others) = IsExpr first.rate
    × AllByRecursion (λ other. first.kind ≡ other.kind → ⊥) others × AreRates others

abbrev pub AreArguments : Option (List tree.Expr) → Type 0
AreArguments None = Unit {0}
AreArguments (Some arguments) = AllByRecursion IsExpr arguments

abbrev pub IsSplitter : tree.Splitter → Type 0
IsSplitter (tree.Duplicate pair) = Unit {0}
IsSplitter (tree.Roundrobin weights) = AreArguments weights

abbrev mutual
  -- an `else` belongs to the nearest `if` that can have it
  pub IsStmt : tree.Stmt → Type 0
  IsStmt tree.Empty = Unit {0}
  IsStmt (tree.Block body) = AreStmts body
  IsStmt (tree.Declare kind variables) = IsFirst (tree.Declare kind variables)
  IsStmt (tree.Evaluate value) = IsStep (tree.Evaluate value)
  IsStmt (tree.Assign name operator value) = IsStep (tree.Assign name operator value)
  IsStmt (tree.AssignElement name index operator value) =
      IsStep (tree.AssignElement name index operator value)
  IsStmt (tree.If condition chosen) = IsExpr condition × IsStmt chosen
  IsStmt (tree.IfElse condition chosen other) =
      IsExpr condition × (takes_else chosen ≡ false) × IsStmt chosen × IsStmt other
  IsStmt (tree.While condition body) = IsExpr condition × IsStmt body
  IsStmt (tree.For first condition step body) =
      IsFirst first × IsOptional condition × IsStep step × IsStmt body
  IsStmt (tree.Push value) = IsExpr value
  IsStmt (tree.Print value) = IsExpr value
  IsStmt (tree.Println value) = IsExpr value
  IsStmt (tree.Return value) = IsOptional value
  IsStmt (tree.Compose statement) = IsComposition statement

  pub AreStmts : tree.Stmts → Type 0
  AreStmts tree.Done = Unit {0}
  AreStmts (tree.Then first others) = IsStmt first × AreStmts others

  pub IsComposition : tree.Composition → Type 0
  IsComposition (tree.ChildOf role child) = IsChild child
  IsComposition (tree.Split splitter) = IsSplitter splitter
  IsComposition (tree.Join weights) = AreArguments weights
  IsComposition (tree.Enqueue value) = IsExpr value

  pub IsChild : tree.Child → Type 0
  IsChild (tree.Named name arguments) = AreArguments arguments
  IsChild (tree.Identity pair) = Unit {0}
  IsChild (tree.FileReader text) = Unit {0}
  IsChild (tree.FileWriter text) = Unit {0}
  IsChild (tree.AnonymousFilter types members) = AreMembers members
  IsChild (tree.AnonymousComposite types kind block) = AreStmts block

  pub IsMember : tree.Member → Type 0
  IsMember (tree.Fields kind variables) = IsVariableType kind × AreVariables variables
  IsMember (tree.Init block) = AreStmts block
  IsMember (tree.Prework rates block) = AreRates rates × AreStmts block
  IsMember (tree.Work rates block) = AreRates rates × AreStmts block
  IsMember (tree.Helper kind name parameters block) = AreStmts block

  pub AreMembers : tree.Members → Type 0
  AreMembers tree.NoMember = Unit {0}
  AreMembers (tree.And first others) = IsMember first × AreMembers others

abbrev pub IsStream : tree.Stream → Type 0
IsStream (tree.Filter input output members) = AllByRecursion IsMember members
IsStream (tree.Composite types kind block) = AreStmts block

abbrev pub IsDeclaration : tree.Declaration → Type 0
IsDeclaration declaration = IsStream declaration.stream

-- a well-shaped program
abbrev pub IsTree : List tree.Declaration → Type 0
IsTree program = AllByRecursion IsDeclaration program

-- ---- heights

-- A leaf has height 1, any other node one more than its highest part. An element is a node above
-- its index.
abbrev mutual
  pub expr_height : tree.Expr → ℕ
  expr_height (tree.Number value) = 1
  expr_height (tree.Truth value) = 1
  expr_height (tree.Read name) = 1
  expr_height (tree.Element name index) = expr_height index + 1
  expr_height tree.Pop = 1
  expr_height (tree.Peek index) = expr_height index + 1
  expr_height (tree.Call name arguments) = given_height arguments + 1
  expr_height (tree.Group inner) = expr_height inner + 1
  expr_height (tree.Unary operator operand) = expr_height operand + 1
  expr_height (tree.Step operator name) = 2
  expr_height (tree.StepElement operator name index) = expr_height index + 2
  expr_height (tree.Binary operator left right) = max (expr_height left) (expr_height right) + 1
  expr_height (tree.Conditional condition chosen other) =
      max (expr_height condition) (max (expr_height chosen) (expr_height other)) + 1

  -- that of the highest argument, or 0
  pub given_height : tree.Arguments → ℕ
  given_height tree.NoArgument = 0
  given_height (tree.Argument first others) = max (expr_height first) (given_height others)

-- the greatest of these heights, or 0
abbrev pub highest : {A : Type 0} → (A → ℕ) → List A → ℕ
highest height_of [] = 0
highest height_of (first ∷ others) = max (height_of first) (highest height_of others)

-- that of the expression, or 0
abbrev pub optional_height : Option tree.Expr → ℕ
optional_height None = 0
optional_height (Some value) = expr_height value

abbrev pub type_height : tree.VariableType → ℕ
type_height (tree.Array count) = expr_height count
type_height _ = 0

abbrev pub variable_height : tree.Variable → ℕ
variable_height variable = optional_height variable.initial

-- that of the highest expression of a declaration, or 0
abbrev pub declared_height : tree.VariableType → List tree.Variable → ℕ
declared_height kind variables = max (type_height kind) (highest variable_height variables)

abbrev pub rate_height : tree.Rate → ℕ
rate_height written = expr_height written.rate

-- that of the highest argument, or 0
abbrev pub arguments_height : Option (List tree.Expr) → ℕ
arguments_height None = 0
arguments_height (Some arguments) = highest expr_height arguments

abbrev pub splitter_height : tree.Splitter → ℕ
splitter_height (tree.Duplicate pair) = 1
splitter_height (tree.Roundrobin weights) = arguments_height weights + 1

abbrev mutual
  -- a part of a `for` has the height of the statement
  pub stmt_height : tree.Stmt → ℕ
  stmt_height tree.Empty = 1
  stmt_height (tree.Block body) = row_height body + 1
  stmt_height (tree.Declare kind variables) = declared_height kind variables + 1
  stmt_height (tree.Evaluate value) = expr_height value + 1
  stmt_height (tree.Assign name operator value) = expr_height value + 1
  stmt_height (tree.AssignElement name index operator value) =
      max (expr_height index + 1) (expr_height value) + 1
  stmt_height (tree.If condition chosen) = max (expr_height condition) (stmt_height chosen) + 1
  stmt_height (tree.IfElse condition chosen other) =
      max (max (expr_height condition) (stmt_height chosen)) (stmt_height other) + 1
  stmt_height (tree.While condition body) = max (expr_height condition) (stmt_height body) + 1
  stmt_height (tree.For first condition step body) =
      max (max (stmt_height first) (max (optional_height condition) (stmt_height step)))
      (stmt_height body) + 1
  stmt_height (tree.Push value) = expr_height value + 1
  stmt_height (tree.Print value) = expr_height value + 1
  stmt_height (tree.Println value) = expr_height value + 1
  stmt_height (tree.Return value) = optional_height value + 1
  stmt_height (tree.Compose statement) = composition_height statement + 1

  -- the highest statement's, or 0
  pub row_height : tree.Stmts → ℕ
  row_height tree.Done = 0
  row_height (tree.Then first others) = max (stmt_height first) (row_height others)

  -- that of the part of a statement of a composite stream
  pub composition_height : tree.Composition → ℕ
  composition_height (tree.ChildOf role child) = child_height child
  composition_height (tree.Split splitter) = splitter_height splitter
  composition_height (tree.Join weights) = arguments_height weights + 1
  composition_height (tree.Enqueue value) = expr_height value

  -- a nested anonymous stream is a part, and so are its own statements and expressions
  pub child_height : tree.Child → ℕ
  child_height (tree.Named name arguments) = arguments_height arguments + 1
  child_height (tree.Identity pair) = 1
  child_height (tree.FileReader text) = 1
  child_height (tree.FileWriter text) = 1
  child_height (tree.AnonymousFilter types members) = members_height members + 1
  child_height (tree.AnonymousComposite types kind block) = row_height block + 1

  -- the height of the highest statement or expression of a member
  pub member_height : tree.Member → ℕ
  member_height (tree.Fields kind variables) = declared_height kind variables
  member_height (tree.Init block) = row_height block
  member_height (tree.Prework rates block) = max (highest rate_height rates) (row_height block)
  member_height (tree.Work rates block) = max (highest rate_height rates) (row_height block)
  member_height (tree.Helper kind name parameters block) = row_height block

  pub members_height : tree.Members → ℕ
  members_height tree.NoMember = 0
  members_height (tree.And first others) = max (member_height first) (members_height others)

abbrev pub stream_height : tree.Stream → ℕ
stream_height (tree.Filter input output members) = highest member_height members
stream_height (tree.Composite types kind block) = row_height block

abbrev pub declaration_height : tree.Declaration → ℕ
declaration_height declaration = stream_height declaration.stream

-- the height of a program's highest statement or expression
abbrev pub height : List tree.Declaration → ℕ
height program = highest declaration_height program

-- the greatest height that a program may have
abbrev pub height_limit : ℕ
height_limit = HEIGHT_LIMIT

-- the tokens are those of this program, which is well shaped and not too high
abbrev pub Parses : List TokenKind → List tree.Declaration → Type 0
Parses tokens program = (tokens ≡ spelling program) × IsTree program
    × (height program ≤ height_limit)

-- What a refusal says: tokens that no program has, at a place within them; or tokens that no
-- program within the limit has, of which there are more than 200.
abbrev pub Refuses : List TokenKind → ParseError → Type 0
Refuses tokens (refusal.Parse place) = (place ≤ length tokens)
    × ((program : List tree.Declaration) → IsTree program → tokens ≡ spelling program → ⊥)
Refuses tokens refusal.Nesting = (200 < length tokens)
    × ((program : List tree.Declaration) → Parses tokens program → ⊥)
Refuses tokens refusal.NoMemory = Unit {0}

-- the answer to the tokens of this program: it, or that memory ran out
abbrev pub IsFound : List tree.Declaration → Result Program ParseError → Type 0
IsFound program (Ok found) = program_view found ≡ program
IsFound program (Err refusal.NoMemory) = Unit {0}
IsFound program (Err _) = ⊥

-- no two programs have one spelling
abbrev pub IsUnambiguous : Type 0
IsUnambiguous = (first second : List tree.Declaration) → IsTree first → IsTree second
    → spelling first ≡ spelling second → first ≡ second
