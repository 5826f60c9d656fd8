-- Reading trees from the front of a token list, rule by rule, as the code does: expressions, and
-- what has no statement in it. It serves the proofs: no public clause cites it.
use Rattle.std.specs.Prelude.{◌≡◌, ℕ, zero, suc, ◌+◌, ◌-◌, max, Bool, true, false, if◌then◌else◌}
use Rattle.std.specs.Prelude.{◌==◌, nat_lt, List, [], ◌∷◌, ◌++◌, length, Option, Some, None, Result}
use Rattle.std.specs.Prelude.{Ok, Err}
use denote.Enum.Bare.{sameb}
use Rattle.strc_lex.specs.contracts.token.Punctuation.{the_type as punctuation_type}
use Rattle.strc_lex.specs.contracts.token.Keyword.{the_type as keyword_type}
use Rattle.strc_lex.specs.declared.token.TokenKind.{TokenKind}
use Rattle.strc_lex.specs.declared.token.TokenKind.TheVariants as token
use Rattle.strc_lex.specs.declared.token.Keyword.{Keyword}
use Rattle.strc_lex.specs.declared.token.Keyword.TheVariants as keyword
use Rattle.strc_lex.specs.declared.token.Punctuation.{Punctuation}
use Rattle.strc_lex.specs.declared.token.Punctuation.TheVariants as punctuation
use Rattle.strc_parse_tree.specs.declared.tree.ItemType.{ItemType}
use Rattle.strc_parse_tree.specs.declared.tree.ItemType.TheVariants as item
use Rattle.strc_parse_tree.specs.declared.tree.StreamType.{StreamType}
use Rattle.strc_parse_tree.specs.declared.tree.CompositeKind.{CompositeKind}
use Rattle.strc_parse_tree.specs.declared.tree.CompositeKind.TheVariants as composite
use Rattle.strc_parse_tree.specs.declared.tree.Brackets.{Brackets}
use Rattle.strc_parse_tree.specs.declared.tree.Brackets.TheVariants as brackets
use Rattle.strc_parse_tree.specs.declared.tree.AssignOperator.{AssignOperator}
use Rattle.strc_parse_tree.specs.declared.tree.AssignOperator.TheVariants as assign
use Rattle.strc_parse_tree.specs.declared.tree.UnaryOperator.{UnaryOperator}
use Rattle.strc_parse_tree.specs.declared.tree.UnaryOperator.TheVariants as unary
use Rattle.strc_parse_tree.specs.declared.tree.StepOperator.{StepOperator}
use Rattle.strc_parse_tree.specs.declared.tree.StepOperator.TheVariants as step
use Rattle.strc_parse_tree.specs.declared.tree.BinaryOperator.{BinaryOperator}
use Rattle.strc_parse_tree.specs.declared.tree.BinaryOperator.TheVariants as binary
use Rattle.strc_parse_grammar.specs.declared.error.Fault.{Fault}
use Rattle.strc_parse_grammar.specs.declared.error.Fault.TheVariants.{Unexpected, Nesting}
use Rattle.strc_parse_grammar.specs.declared.error.ReadError.{ReadError}
use Rattle.strc_parse_grammar.specs.declared.error.ReadError.TheVariants as errors
use Rattle.strc_parse_tree.specs.Tree as tree
use Rattle.strc_parse_tree.specs.Tree.{read_of, step_of_place, arguments_of}
use Rattle.strc_parse_grammar.specs.Grammar.{precedence, lowest_precedence}

infixl 10 ◌>>=◌
abbrev pub ◌>>=◌ : {A B : Type 0} → Result A Fault → (A → Result B Fault) → Result B Fault
(Ok x) >>= f = f x
(Err e) >>= f = Err e

-- What a function returned, seen by view, is what reading gives, unless memory ran out.
abbrev pub Fails : {Y : Type 0} → ReadError → Result Y Fault → Type 0
Fails errors.Memory read = Unit {0}
Fails (errors.Fault f) read = read ≡ Err f

abbrev pub Gives : {X Y : Type 0} → (X → Y) → Result X ReadError → Result Y Fault → Type 0
Gives view (Ok x) read = read ≡ Ok (view x)
Gives view (Err e) read = Fails e read

-- a value and the tokens after it
abbrev pub Read : Type 0 → Type 0
Read A = Result (A × List TokenKind) Fault

-- a tree, its height and the tokens after it
abbrev pub Tall : Type 0 → Type 0
Tall A = Result (A × ℕ × List TokenKind) Fault

abbrev pub first : List TokenKind → Option TokenKind
first [] = None
first (t ∷ rest) = Some t

abbrev pub tail : List TokenKind → List TokenKind
tail [] = []
tail (t ∷ rest) = rest

abbrev pub unexpected : {A : Type 0} → List TokenKind → Result A Fault
unexpected tokens = Err (Unexpected (length tokens))

abbrev pub punctuation_by : Option TokenKind → Option Punctuation
punctuation_by (Some (token.Punctuation found)) = Some found
punctuation_by _ = None

-- the punctuation that comes first
unfoldable pub punctuation_at : List TokenKind → Option Punctuation
punctuation_at tokens = punctuation_by (first tokens)

abbrev pub is_punctuation_by : Punctuation → Option TokenKind → Bool
is_punctuation_by wanted (Some (token.Punctuation found)) = sameb punctuation_type found wanted
is_punctuation_by wanted _ = false

unfoldable pub is_punctuation : Punctuation → List TokenKind → Bool
is_punctuation wanted tokens = is_punctuation_by wanted (first tokens)

abbrev pub is_keyword_by : Keyword → Option TokenKind → Bool
is_keyword_by wanted (Some (token.Keyword found)) = sameb keyword_type found wanted
is_keyword_by wanted _ = false

unfoldable pub is_keyword : Keyword → List TokenKind → Bool
is_keyword wanted tokens = is_keyword_by wanted (first tokens)

-- the tokens after a punctuation mark
unfoldable pub expect : Punctuation → List TokenKind → Result (List TokenKind) Fault
expect wanted tokens = if is_punctuation wanted tokens then Ok (tail tokens) else unexpected tokens

unfoldable pub expect_keyword : Keyword → List TokenKind → Result (List TokenKind) Fault
expect_keyword wanted tokens = if is_keyword wanted tokens then Ok (tail tokens)
    else unexpected tokens

abbrev pub name_by : Option TokenKind → List TokenKind → Read (List ℕ)
name_by (Some (token.Name name)) tokens = Ok (name, tail tokens)
name_by _ tokens = unexpected tokens

unfoldable pub name : List TokenKind → Read (List ℕ)
name tokens = name_by (first tokens) tokens

abbrev pub text_by : Option TokenKind → List TokenKind → Read (List ℕ)
text_by (Some (token.StringLiteral text)) tokens = Ok (text, tail tokens)
text_by _ tokens = unexpected tokens

-- what the string that comes first has between its quotes
unfoldable pub text : List TokenKind → Read (List ℕ)
text tokens = text_by (first tokens) tokens

-- the height of a node whose highest part has this height
unfoldable pub raised : ℕ → ℕ → Result ℕ Fault
raised depth height = if nat_lt height depth then Ok (height + 1) else Err Nesting

-- A loop with at most so many turns: where it stops, with what follows it, and what a turn makes of
-- what there is so far.
abbrev pub repeated_by : {S : Type 0} → (S → List TokenKind → Read S)
    → (S → List TokenKind → Read S) → S → List TokenKind → Option (List TokenKind) → Read S
repeated_by turn goes_on so_far tokens (Some after) = Ok (so_far, after)
repeated_by turn goes_on so_far tokens None = turn so_far tokens >>= λ next. goes_on next.0 next.1

unfoldable pub repeated : {S : Type 0} → (List TokenKind → Option (List TokenKind))
    → (S → List TokenKind → Read S) → ℕ → S → List TokenKind → Read S
repeated stop turn zero so_far tokens = unexpected tokens
repeated stop turn (suc turns) so_far tokens =
    repeated_by turn (repeated stop turn turns) so_far tokens (stop tokens)

-- a turn that reads one more item of a list
unfoldable pub one_more : {A : Type 0} → (List TokenKind → Read A) → List A → List TokenKind
    → Read (List A)
one_more reader front tokens = reader tokens >>= λ read. Ok (front ++ read.0 ∷ [], read.1)

-- a turn that reads one more tree of a list: those so far, and the height of the highest of them
unfoldable pub one_taller : {A : Type 0} → (List TokenKind → Tall A) → List A × ℕ → List TokenKind
    → Read (List A × ℕ)
one_taller reader so_far tokens = reader tokens >>= λ read. Ok
    ((so_far.0 ++ read.0 ∷ [], max so_far.1 read.1), read.2)

-- a loop stops at the brace that closes, and goes on after it
unfoldable pub brace : List TokenKind → Option (List TokenKind)
brace tokens = if is_punctuation punctuation.CloseBrace tokens then Some (tail tokens) else None

-- ---- expressions

abbrev pub binary_of : Punctuation → Option BinaryOperator
binary_of punctuation.OrOr = Some binary.LogicalOr
binary_of punctuation.AndAnd = Some binary.LogicalAnd
binary_of punctuation.Or = Some binary.Or
binary_of punctuation.Caret = Some binary.ExclusiveOr
binary_of punctuation.And = Some binary.And
binary_of punctuation.Equal = Some binary.Equal
binary_of punctuation.NotEqual = Some binary.NotEqual
binary_of punctuation.Less = Some binary.Less
binary_of punctuation.LessEqual = Some binary.LessOrEqual
binary_of punctuation.Greater = Some binary.Greater
binary_of punctuation.GreaterEqual = Some binary.GreaterOrEqual
binary_of punctuation.ShiftLeft = Some binary.ShiftLeft
binary_of punctuation.ShiftRight = Some binary.ShiftRight
binary_of punctuation.Plus = Some binary.Add
binary_of punctuation.Minus = Some binary.Subtract
binary_of punctuation.Star = Some binary.Multiply
binary_of punctuation.Slash = Some binary.Divide
binary_of punctuation.Percent = Some binary.Remainder
binary_of _ = None

abbrev pub binary_by : Option Punctuation → Option BinaryOperator
binary_by None = None
binary_by (Some found) = binary_of found

abbrev pub of_rank : ℕ → Option BinaryOperator → Option BinaryOperator
of_rank rank None = None
of_rank rank (Some operator) = if precedence operator == rank then Some operator else None

-- the operator of this rank that comes first
unfoldable pub operator : ℕ → List TokenKind → Option BinaryOperator
operator rank tokens = of_rank rank (binary_by (punctuation_at tokens))

abbrev pub step_of : Option Punctuation → Option StepOperator
step_of (Some punctuation.PlusPlus) = Some step.IncrementAfter
step_of (Some punctuation.MinusMinus) = Some step.DecrementAfter
step_of _ = None

-- the step of a variable or an element that is after it
unfoldable pub step_after : List TokenKind → Option StepOperator
step_after tokens = step_of (punctuation_at tokens)

-- The readers of expressions at a depth take the reader at the depth below, by its rank.
abbrev pub Below : Type 0
Below = ℕ → List TokenKind → Tall tree.Expr

-- `e` and the punctuation that closes it
unfoldable pub closed : Below → Punctuation → List TokenKind → Tall tree.Expr
closed below closing tokens = do
  value ← below lowest_precedence tokens
  rest ← expect closing value.2
  Ok (value.0, value.1, rest)

-- `[i]`, if it is there, with the height of what has the index: after the name
unfoldable pub index : ℕ → Below → List TokenKind → Tall (Option tree.Expr)
index depth below tokens =
    if is_punctuation punctuation.OpenBracket tokens
    then (closed below punctuation.CloseBracket (tail tokens) >>= λ value.
    raised depth value.1 >>= λ height. Ok (Some value.0, height, value.2))
    else Ok (None, 1, tokens)

abbrev pub after_place_by : ℕ → List ℕ → Option tree.Expr → ℕ → List TokenKind → Option StepOperator
    → Tall tree.Expr
after_place_by depth name at height tokens None = Ok (read_of name at, height, tokens)
after_place_by depth name at height tokens (Some operator) =
    raised depth height >>= λ high. Ok (step_of_place operator name at, high, tail tokens)

-- `x` or `x++`, `x[i]` or `x[i]++`: after the name and its index
unfoldable pub after_place : ℕ → List ℕ → Option tree.Expr → ℕ → List TokenKind → Tall tree.Expr
after_place depth name at height tokens =
    after_place_by depth name at height tokens (step_after tokens)

-- the same after the name
unfoldable pub after_variable : ℕ → Below → List ℕ → List TokenKind → Tall tree.Expr
after_variable depth below name tokens = index depth below tokens >>= λ at.
    after_place depth name at.0 at.1 at.2

-- lists stop where there is no comma
unfoldable pub no_comma : List TokenKind → Option (List TokenKind)
no_comma tokens = if is_punctuation punctuation.Comma tokens then None else Some tokens

-- a further argument: at its comma
unfoldable pub next_argument : Below → List TokenKind → Tall tree.Expr
next_argument below tokens = below lowest_precedence (tail tokens)

-- the arguments after these
unfoldable pub more_arguments : Below → List tree.Expr × ℕ → List TokenKind
    → Read (List tree.Expr × ℕ)
more_arguments below so_far tokens = repeated no_comma (one_taller (next_argument below))
    (length tokens + 1) so_far tokens

-- expressions with commas between them, or none before the bracket that closes them, and the height
-- of the highest or 0
unfoldable pub listed_arguments : Below → List TokenKind → Read (List tree.Expr × ℕ)
listed_arguments below tokens =
    if is_punctuation punctuation.CloseParen tokens
    then Ok (([], 0), tokens)
    else (below lowest_precedence tokens >>= λ read. more_arguments below
    (read.0 ∷ [], read.1) read.2)

-- the same with the bracket: `1, 2)`
unfoldable pub closed_arguments : Below → List TokenKind → Tall (List tree.Expr)
closed_arguments below tokens = do
  listed ← listed_arguments below tokens
  rest ← expect punctuation.CloseParen listed.1
  Ok (listed.0.0, listed.0.1, rest)

-- `f(1, 2)`: after the bracket that opens
unfoldable pub call : ℕ → Below → List ℕ → List TokenKind → Tall tree.Expr
call depth below name tokens = do
  given ← closed_arguments below tokens
  height ← raised depth given.1
  Ok (tree.Call name (arguments_of given.0), height, given.2)

-- a call, or a variable or an element with its step: after the name
unfoldable pub after_name : ℕ → Below → List ℕ → List TokenKind → Tall tree.Expr
after_name depth below name tokens =
    if is_punctuation punctuation.OpenParen tokens then call depth below name (tail tokens)
    else after_variable depth below name tokens

-- `++x` or `++x[i]`: after the punctuation
unfoldable pub step_first : ℕ → Below → StepOperator → List TokenKind → Tall tree.Expr
step_first depth below operator tokens = do
  read ← name tokens
  at ← index depth below read.1
  height ← raised depth at.1
  Ok (step_of_place operator read.0 at.0, height, at.2)

-- `pop()`: after the keyword
unfoldable pub pop_brackets : List TokenKind → Tall tree.Expr
pop_brackets tokens = do
  inside ← expect punctuation.OpenParen tokens
  rest ← expect punctuation.CloseParen inside
  Ok (tree.Pop, 1, rest)

-- `peek(i)`: after the keyword
unfoldable pub peek_brackets : ℕ → Below → List TokenKind → Tall tree.Expr
peek_brackets depth below tokens = do
  inside ← expect punctuation.OpenParen tokens
  at ← closed below punctuation.CloseParen inside
  height ← raised depth at.1
  Ok (tree.Peek at.0, height, at.2)

-- `(e)`: after the bracket
unfoldable pub group : ℕ → Below → List TokenKind → Tall tree.Expr
group depth below tokens = do
  inner ← closed below punctuation.CloseParen tokens
  height ← raised depth inner.1
  Ok (tree.Group inner.0, height, inner.2)

-- `-e`: after the punctuation
unfoldable pub sign : ℕ → Below → UnaryOperator → List TokenKind → Tall tree.Expr
sign depth below operator tokens = do
  inner ← below 0 tokens
  height ← raised depth inner.1
  Ok (tree.Unary operator inner.0, height, inner.2)

-- an operand that begins with this punctuation mark
unfoldable pub punctuation_operand : ℕ → Below → Punctuation → List TokenKind → Tall tree.Expr
punctuation_operand depth below punctuation.OpenParen tokens = group depth below (tail tokens)
punctuation_operand depth below punctuation.Minus tokens =
    sign depth below unary.Negate (tail tokens)
punctuation_operand depth below punctuation.Not tokens = sign depth below unary.Not (tail tokens)
punctuation_operand depth below punctuation.Tilde tokens =
    sign depth below unary.Complement (tail tokens)
punctuation_operand depth below punctuation.PlusPlus tokens =
    step_first depth below step.IncrementFirst (tail tokens)
punctuation_operand depth below punctuation.MinusMinus tokens =
    step_first depth below step.DecrementFirst (tail tokens)
punctuation_operand depth below _ tokens = unexpected tokens

-- an operand that begins with this keyword
unfoldable pub keyword_operand : ℕ → Below → Keyword → List TokenKind → Tall tree.Expr
keyword_operand depth below keyword.True tokens = Ok (tree.Truth true, 1, tail tokens)
keyword_operand depth below keyword.False tokens = Ok (tree.Truth false, 1, tail tokens)
keyword_operand depth below keyword.Pop tokens = pop_brackets (tail tokens)
keyword_operand depth below keyword.Peek tokens = peek_brackets depth below (tail tokens)
keyword_operand depth below _ tokens = unexpected tokens

abbrev pub operand_by : ℕ → Below → List TokenKind → Option TokenKind → Tall tree.Expr
operand_by depth below tokens (Some (token.Number value)) = Ok (tree.Number value, 1, tail tokens)
operand_by depth below tokens (Some (token.Name name)) = after_name depth below name (tail tokens)
operand_by depth below tokens (Some (token.Keyword found)) =
    keyword_operand depth below found tokens
operand_by depth below tokens (Some (token.Punctuation found)) =
    punctuation_operand depth below found tokens
operand_by depth below tokens (Some (token.StringLiteral found)) = unexpected tokens
operand_by depth below tokens None = unexpected tokens

-- an expression with no operator between operands
unfoldable pub operand : ℕ → Below → List TokenKind → Tall tree.Expr
operand depth below tokens = operand_by depth below tokens (first tokens)

-- A turn of the loop over operators of one rank, which group to the left: what comes first, and how
-- to go on after it.
abbrev pub chain_by : ℕ → Below → ℕ → (tree.Expr → ℕ → List TokenKind → Tall tree.Expr) → tree.Expr
    → ℕ → List TokenKind → Option BinaryOperator → Tall tree.Expr
chain_by depth below rank goes_on left height tokens None = Ok (left, height, tokens)
chain_by depth below rank goes_on left height tokens (Some operator) =
    below (rank - 1) (tail tokens) >>= λ right. raised depth (max height right.1) >>= λ both.
    goes_on (tree.Binary operator left right.0) both right.2

-- the loop, with at most so many turns
unfoldable pub chain : ℕ → Below → ℕ → ℕ → tree.Expr → ℕ → List TokenKind → Tall tree.Expr
chain depth below rank zero left height tokens = Ok (left, height, tokens)
chain depth below rank (suc turns) left height tokens =
    chain_by depth below rank (chain depth below rank turns) left height tokens
    (operator rank tokens)

-- an expression of at most this rank, of operands and binary operators
unfoldable pub climb : ℕ → Below → ℕ → List TokenKind → Tall tree.Expr
climb depth below zero tokens = operand depth below tokens
climb depth below (suc rank) tokens = climb depth below rank tokens >>= λ left. chain depth below
    (suc rank) (length left.2) left.0 left.1 left.2

-- `a : b`: after the question mark
unfoldable pub choice : ℕ → Below → tree.Expr → ℕ → List TokenKind → Tall tree.Expr
choice depth below condition height tokens = do
  chosen ← closed below punctuation.Colon tokens
  other ← below lowest_precedence chosen.2
  high ← raised depth (max height (max chosen.1 other.1))
  Ok (tree.Conditional condition chosen.0 other.0, high, other.2)

-- the lowest precedence of a binary operator
abbrev pub lowest_binary_precedence : ℕ
lowest_binary_precedence = 10

-- `c ? a : b`, or c alone
unfoldable pub conditional : ℕ → Below → List TokenKind → Tall tree.Expr
conditional depth below tokens =
    climb depth below lowest_binary_precedence tokens
    >>= λ read. if is_punctuation punctuation.Question read.2 then choice depth below read.0 read.1
    (tail read.2) else Ok (read.0, read.1, read.2)

-- an expression of at most this rank
unfoldable pub ranked : ℕ → Below → ℕ → List TokenKind → Tall tree.Expr
ranked depth below rank tokens = if rank == lowest_precedence then conditional depth below tokens
    else climb depth below rank tokens

-- an expression of at most this height and rank
unfoldable pub expression : ℕ → ℕ → List TokenKind → Tall tree.Expr
expression zero rank tokens = Err Nesting
expression (suc depth) rank tokens = ranked (suc depth) (expression depth) rank tokens

-- ---- variables

-- `= e`, if it is there: the initialiser, its height or 0
unfoldable pub initial : ℕ → List TokenKind → Tall (Option tree.Expr)
initial depth tokens =
    if is_punctuation punctuation.Assign tokens then
    (expression depth lowest_precedence (tail tokens) >>= λ value. Ok
    (Some value.0, value.1, value.2)) else Ok (None, 0, tokens)

-- `x` or `x = e`
unfoldable pub variable : ℕ → List TokenKind → Tall tree.Variable
variable depth tokens = do
  named ← name tokens
  begun ← initial depth named.1
  Ok (record { name = named.0; initial = begun.0 }, begun.1, begun.2)

-- a further variable: at its comma
unfoldable pub next_variable : ℕ → List TokenKind → Tall tree.Variable
next_variable depth tokens = variable depth (tail tokens)

-- the variables after these
unfoldable pub more_variables : ℕ → List tree.Variable × ℕ → List TokenKind
    → Read (List tree.Variable × ℕ)
more_variables depth so_far tokens = repeated no_comma (one_taller (next_variable depth))
    (length tokens + 1) so_far tokens

-- variables with commas between them, and the height of the highest initialiser or 0
unfoldable pub variables : ℕ → List TokenKind → Read (List tree.Variable × ℕ)
variables depth tokens = variable depth tokens >>= λ read. more_variables depth
    (read.0 ∷ [], read.1) read.2

-- `int` or `int[n]`: after the keyword
unfoldable pub int_type : ℕ → List TokenKind → Tall tree.VariableType
int_type depth tokens =
    if is_punctuation punctuation.OpenBracket tokens
    then (closed (expression depth) punctuation.CloseBracket (tail tokens) >>= λ count. Ok
    (tree.Array count.0, count.1, count.2))
    else Ok (tree.Int, 0, tokens)

abbrev pub variable_type_by : ℕ → List TokenKind → Option TokenKind → Tall tree.VariableType
variable_type_by depth tokens (Some (token.Keyword keyword.Boolean)) =
    Ok (tree.Boolean, 0, tail tokens)
variable_type_by depth tokens (Some (token.Keyword keyword.Int)) = int_type depth (tail tokens)
variable_type_by depth tokens _ = unexpected tokens

-- the type of variables, with the height of its length or 0
unfoldable pub variable_type : ℕ → List TokenKind → Tall tree.VariableType
variable_type depth tokens = variable_type_by depth tokens (first tokens)

-- `int x = 1, y`, with the height of the highest expression or 0
unfoldable pub declared : ℕ → List TokenKind → Tall (tree.VariableType × List tree.Variable)
declared depth tokens = do
  kind ← variable_type depth tokens
  read ← variables depth kind.2
  Ok ((kind.0, read.0.0), max kind.1 read.0.1, read.1)

-- ---- statements that end with a semicolon

-- the declaration as a statement
unfoldable pub declare : ℕ → List TokenKind → Tall tree.Stmt
declare depth tokens = do
  read ← declared (depth - 1) tokens
  height ← raised depth read.1
  Ok (tree.Declare read.0.0 read.0.1, height, read.2)

abbrev pub assign_of : Option Punctuation → Option AssignOperator
assign_of (Some punctuation.Assign) = Some assign.Set
assign_of (Some punctuation.PlusAssign) = Some assign.Add
assign_of (Some punctuation.MinusAssign) = Some assign.Subtract
assign_of (Some punctuation.StarAssign) = Some assign.Multiply
assign_of (Some punctuation.SlashAssign) = Some assign.Divide
assign_of (Some punctuation.PercentAssign) = Some assign.Remainder
assign_of _ = None

-- the operator of an assignment that comes first
unfoldable pub assign_at : List TokenKind → Option AssignOperator
assign_at tokens = assign_of (punctuation_at tokens)

-- an expression that was read, as a statement
unfoldable pub evaluate : ℕ → tree.Expr → ℕ → List TokenKind → Tall tree.Stmt
evaluate depth value height tokens = raised depth height >>= λ high. Ok
    (tree.Evaluate value, high, tokens)

-- `x = e`: after the operator
unfoldable pub assign_to : ℕ → List ℕ → AssignOperator → List TokenKind → Tall tree.Stmt
assign_to depth name operator tokens = do
  value ← expression (depth - 1) lowest_precedence tokens
  height ← raised depth value.1
  Ok (tree.Assign name operator value.0, height, value.2)

-- `x[i] = e`: after the operator, with the height of the element
unfoldable pub assign_element : ℕ → List ℕ → tree.Expr → ℕ → AssignOperator → List TokenKind
    → Tall tree.Stmt
assign_element depth name at height operator tokens = do
  value ← expression (depth - 1) lowest_precedence tokens
  high ← raised depth (max height value.1)
  Ok (tree.AssignElement name at operator value.0, high, value.2)

abbrev pub assign_by : ℕ → tree.Expr → ℕ → AssignOperator → List TokenKind → Tall tree.Stmt
assign_by depth (tree.Read name) height operator tokens =
    assign_to depth name operator (tail tokens)
assign_by depth (tree.Element name at) height operator tokens =
    assign_element depth name at height operator (tail tokens)
assign_by depth value height operator tokens = evaluate depth value height tokens

-- what an operator that comes first makes of the expression before it: an assignment, where that
-- is a variable or an element
unfoldable pub assignment : ℕ → tree.Expr → ℕ → AssignOperator → List TokenKind → Tall tree.Stmt
assignment depth value height operator tokens = assign_by depth value height operator tokens

abbrev pub after_value_by : ℕ → tree.Expr → ℕ → List TokenKind → Option AssignOperator
    → Tall tree.Stmt
after_value_by depth value height tokens None = evaluate depth value height tokens
after_value_by depth value height tokens (Some operator) =
    assignment depth value height operator tokens

unfoldable pub after_value : ℕ → tree.Expr → ℕ → List TokenKind → Tall tree.Stmt
after_value depth value height tokens = after_value_by depth value height tokens (assign_at tokens)

-- an expression or an assignment
unfoldable pub simple : ℕ → List TokenKind → Tall tree.Stmt
simple depth tokens = expression (depth - 1) lowest_precedence tokens >>= λ value.
    after_value depth value.0 value.1 value.2

-- the same, or nothing before this punctuation mark
unfoldable pub optional : ℕ → Punctuation → List TokenKind → Tall tree.Stmt
optional depth end tokens = if is_punctuation end tokens then Ok (tree.Empty, 1, tokens)
    else simple depth tokens

abbrev pub part_by : ℕ → List TokenKind → Option TokenKind → Tall tree.Stmt
part_by depth tokens (Some (token.Keyword keyword.Boolean)) = declare depth tokens
part_by depth tokens (Some (token.Keyword keyword.Int)) = declare depth tokens
part_by depth tokens _ = optional depth punctuation.Semicolon tokens

-- a statement up to its semicolon
unfoldable pub part : ℕ → List TokenKind → Tall tree.Stmt
part depth tokens = part_by depth tokens (first tokens)

-- the same with the semicolon
unfoldable pub ended : ℕ → List TokenKind → Tall tree.Stmt
ended depth tokens = do
  read ← part depth tokens
  rest ← expect punctuation.Semicolon read.2
  Ok (read.0, read.1, rest)

-- `(e)`, with the height of e
unfoldable pub bracketed : ℕ → List TokenKind → Tall tree.Expr
bracketed depth tokens = expect punctuation.OpenParen tokens >>= λ inside. closed
    (expression (depth - 1)) punctuation.CloseParen inside

-- `(e);`, with the height of a node above e
unfoldable pub argument : ℕ → List TokenKind → Tall tree.Expr
argument depth tokens = do
  value ← bracketed depth tokens
  rest ← expect punctuation.Semicolon value.2
  height ← raised depth value.1
  Ok (value.0, height, rest)

-- an expression, if there is one, and its semicolon
unfoldable pub optional_value : ℕ → List TokenKind → Tall (Option tree.Expr)
optional_value depth tokens =
    if is_punctuation punctuation.Semicolon tokens
    then Ok (None, 0, tail tokens)
    else (closed (expression depth) punctuation.Semicolon tokens >>= λ value. Ok
    (Some value.0, value.1, value.2))

-- `return`: after the keyword
unfoldable pub return_value : ℕ → List TokenKind → Tall tree.Stmt
return_value depth tokens = do
  value ← optional_value (depth - 1) tokens
  height ← raised depth value.1
  Ok (tree.Return value.0, height, value.2)

-- the step of a `for`, and the bracket after it
unfoldable pub last_part : ℕ → List TokenKind → Tall tree.Stmt
last_part depth tokens = do
  read ← optional depth punctuation.CloseParen tokens
  rest ← expect punctuation.CloseParen read.2
  Ok (read.0, read.1, rest)

-- `condition; step)`, and the height of the higher
unfoldable pub after_first : ℕ → List TokenKind → Tall (Option tree.Expr × tree.Stmt)
after_first depth tokens = do
  tested ← optional_value depth tokens
  stepped ← last_part depth tested.2
  Ok ((tested.0, stepped.0), max tested.1 stepped.1, stepped.2)

-- `(first; condition; step)`, and the height of the highest
unfoldable pub for_heading : ℕ → List TokenKind → Tall (tree.Stmt × Option tree.Expr × tree.Stmt)
for_heading depth tokens = do
  opened ← expect punctuation.OpenParen tokens
  begun ← ended depth opened
  past ← after_first depth begun.2
  Ok ((begun.0, past.0.0, past.0.1), max begun.1 past.1, past.2)

-- ---- arguments and parameters

-- `(1, 2)`, if it is there
unfoldable pub arguments : ℕ → List TokenKind → Tall (Option (List tree.Expr))
arguments depth tokens =
    if is_punctuation punctuation.OpenParen tokens
    then (closed_arguments (expression depth) (tail tokens) >>= λ read. Ok
    (Some read.0, read.1, read.2))
    else Ok (None, 0, tokens)

-- `()`, if it is there
unfoldable pub empty_brackets : List TokenKind → Read Brackets
empty_brackets tokens =
    if is_punctuation punctuation.OpenParen tokens
    then (expect punctuation.CloseParen (tail tokens) >>= λ rest. Ok (brackets.Written, rest))
    else Ok (brackets.Missing, tokens)

-- `int n`
unfoldable pub parameter : List TokenKind → Read (List ℕ)
parameter tokens = expect_keyword keyword.Int tokens >>= λ named. name named

-- a further parameter: at its comma
unfoldable pub next_parameter : List TokenKind → Read (List ℕ)
next_parameter tokens = parameter (tail tokens)

-- the parameters after these
unfoldable pub more_parameters : List (List ℕ) → List TokenKind → Read (List (List ℕ))
more_parameters so_far tokens = repeated no_comma (one_more next_parameter)
    (length tokens + 1) so_far tokens

-- parameters with commas between them, or none before the bracket that closes them
unfoldable pub listed_parameters : List TokenKind → Read (List (List ℕ))
listed_parameters tokens =
    if is_punctuation punctuation.CloseParen tokens then Ok ([], tokens) else
    (parameter tokens >>= λ read. more_parameters (read.0 ∷ []) read.1)

-- `(int n, int m)`: after the bracket that opens
unfoldable pub closed_parameters : List TokenKind → Read (List (List ℕ))
closed_parameters tokens = do
  listed ← listed_parameters tokens
  rest ← expect punctuation.CloseParen listed.1
  Ok (listed.0, rest)

-- `(int n, int m)`, if it is there
unfoldable pub parameters : List TokenKind → Read (Option (List (List ℕ)))
parameters tokens =
    if is_punctuation punctuation.OpenParen tokens
    then (closed_parameters (tail tokens) >>= λ read. Ok (Some read.0, read.1))
    else Ok (None, tokens)

-- ---- types of streams

abbrev pub type_by : Option TokenKind → List TokenKind → Read ItemType
type_by (Some (token.Keyword keyword.Int)) tokens = Ok (item.Int, tail tokens)
type_by (Some (token.Keyword keyword.Void)) tokens = Ok (item.Void, tail tokens)
type_by _ tokens = unexpected tokens

unfoldable pub item_type : List TokenKind → Read ItemType
item_type tokens = type_by (first tokens) tokens

-- `int->void`
unfoldable pub stream_type : List TokenKind → Read StreamType
stream_type tokens = do
  input ← item_type tokens
  arrow ← expect punctuation.Arrow input.1
  output ← item_type arrow
  Ok (record { input = input.0; output = output.0 }, output.1)

abbrev pub composite_kind_of : Option TokenKind → Option CompositeKind
composite_kind_of (Some (token.Keyword keyword.Pipeline)) = Some composite.Pipeline
composite_kind_of (Some (token.Keyword keyword.Splitjoin)) = Some composite.Splitjoin
composite_kind_of (Some (token.Keyword keyword.Feedbackloop)) = Some composite.Feedbackloop
composite_kind_of _ = None

-- the kind of composite stream whose keyword comes first
unfoldable pub composite_kind : List TokenKind → Option CompositeKind
composite_kind tokens = composite_kind_of (first tokens)

-- `<int>`
unfoldable pub int_items : List TokenKind → Result (List TokenKind) Fault
int_items tokens = do
  opened ← expect punctuation.Less tokens
  named ← expect_keyword keyword.Int opened
  expect punctuation.Greater named

-- `("numbers")`
unfoldable pub bracketed_text : List TokenKind → Read (List ℕ)
bracketed_text tokens = do
  opened ← expect punctuation.OpenParen tokens
  read ← text opened
  rest ← expect punctuation.CloseParen read.1
  Ok (read.0, rest)

-- `<int>("numbers");`
unfoldable pub file : List TokenKind → Read (List ℕ)
file tokens = do
  opened ← int_items tokens
  read ← bracketed_text opened
  rest ← expect punctuation.Semicolon read.1
  Ok (read.0, rest)
