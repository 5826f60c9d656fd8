-- Reading statements and streams from the front of a token list, rule by rule, as the code does. It
-- serves the proofs: no public clause cites it.
use Rattle.std.specs.Prelude.{ℕ, zero, suc, ◌+◌, ◌-◌, max, Bool, false, if◌then◌else◌, List, []}
use Rattle.std.specs.Prelude.{◌∷◌, ◌++◌, length, Option, Some, None, Result, Ok, Err}
use Rattle.std.specs.List.{list_any}
use denote.Enum.Bare.{sameb}
use Rattle.strc_lex.specs.declared.token.TokenKind.{TokenKind}
use Rattle.strc_lex.specs.declared.token.TokenKind.TheVariants as token
use Rattle.strc_lex.specs.declared.token.Keyword.{Keyword}
use Rattle.strc_lex.specs.declared.token.Keyword.TheVariants as keyword
use Rattle.strc_lex.specs.declared.token.Punctuation.TheVariants as punctuation
use Rattle.strc_parse_tree.specs.declared.tree.StreamType.{StreamType}
use Rattle.strc_parse_tree.specs.declared.tree.CompositeKind.{CompositeKind}
use Rattle.strc_parse_tree.specs.declared.tree.Role.{Role}
use Rattle.strc_parse_tree.specs.declared.tree.Role.TheVariants as role
use Rattle.strc_parse_tree.specs.declared.tree.RateKind.{RateKind}
use Rattle.strc_parse_tree.specs.declared.tree.RateKind.TheVariants as rate
use Rattle.strc_parse_tree.specs.contracts.tree.RateKind.{the_type as rate_type}
use Rattle.strc_parse_tree.specs.declared.tree.HelperType.{HelperType}
use Rattle.strc_parse_tree.specs.declared.tree.HelperType.TheVariants as helper
use Rattle.strc_parse_grammar.specs.declared.error.Fault.{Fault}
use Rattle.strc_parse_grammar.specs.declared.error.Fault.TheVariants.{Nesting}
use Rattle.strc_parse_tree.specs.Tree as tree
use Rattle.strc_parse_tree.specs.Tree.{row, chain}
use Rattle.strc_parse_grammar.specs.Grammar.{lowest_precedence}
use Rattle.strc_parse_grammar.specs.Reading.{◌>>=◌, Read, Tall, first, tail, unexpected, is_keyword}
use Rattle.strc_parse_grammar.specs.Reading.{is_punctuation, closed_parameters, return_value}
use Rattle.strc_parse_grammar.specs.Reading.{expect, expect_keyword, name, raised, repeated}
use Rattle.strc_parse_grammar.specs.Reading.{one_more}
use Rattle.strc_parse_grammar.specs.Reading.{one_taller, brace, expression, declared, closed, ended}
use Rattle.strc_parse_grammar.specs.Reading.{bracketed, argument, for_heading, arguments}
use Rattle.strc_parse_grammar.specs.Reading.{empty_brackets}
use Rattle.strc_parse_grammar.specs.Reading.{parameters, stream_type, composite_kind, int_items}
use Rattle.strc_parse_grammar.specs.Reading.{file}

-- ---- statements with others in them

-- The reader of statements at the depth below.
abbrev pub Inner : Type 0
Inner = List TokenKind → Tall tree.Stmt

-- the statements up to the brace that closes them, and the height of the highest or 0
unfoldable pub statements : Inner → List TokenKind → Read (List tree.Stmt × ℕ)
statements inner tokens = repeated brace (one_taller inner) (length tokens) ([], 0) tokens

-- a block as a statement: after its brace
unfoldable pub block : ℕ → Inner → List TokenKind → Tall tree.Stmt
block depth inner tokens = do
  body ← statements inner tokens
  height ← raised depth body.0.1
  Ok (tree.Block (row body.0.0), height, body.1)

-- the branch after `else`, with the height of what is before it
unfoldable pub other_branch : ℕ → Inner → tree.Expr → tree.Stmt → ℕ → List TokenKind
    → Tall tree.Stmt
other_branch depth inner condition chosen height tokens = do
  other ← inner tokens
  high ← raised depth (max height other.1)
  Ok (tree.IfElse condition chosen other.0, high, other.2)

-- what follows a branch, to which an `else` belongs that is there
unfoldable pub after_branch : ℕ → Inner → tree.Expr → tree.Stmt → ℕ → List TokenKind
    → Tall tree.Stmt
after_branch depth inner condition chosen height tokens =
    if is_keyword keyword.Else tokens
    then other_branch depth inner condition chosen height (tail tokens)
    else (raised depth height >>= λ high. Ok (tree.If condition chosen, high, tokens))

-- `if`: after the keyword
unfoldable pub branch : ℕ → Inner → List TokenKind → Tall tree.Stmt
branch depth inner tokens = do
  condition ← bracketed depth tokens
  chosen ← inner condition.2
  after_branch depth inner condition.0 chosen.0 (max condition.1 chosen.1) chosen.2

-- `while`: after the keyword
unfoldable pub while_loop : ℕ → Inner → List TokenKind → Tall tree.Stmt
while_loop depth inner tokens = do
  condition ← bracketed depth tokens
  body ← inner condition.2
  height ← raised depth (max condition.1 body.1)
  Ok (tree.While condition.0 body.0, height, body.2)

-- `for`: after the keyword
unfoldable pub for_loop : ℕ → Inner → List TokenKind → Tall tree.Stmt
for_loop depth inner tokens = do
  heading ← for_heading depth tokens
  body ← inner heading.2
  height ← raised depth (max heading.1 body.1)
  Ok (tree.For heading.0.0 heading.0.1 heading.0.2 body.0, height, body.2)

-- ---- the members of a filter

abbrev pub rate_kind_of : Option TokenKind → Option RateKind
rate_kind_of (Some (token.Keyword keyword.Push)) = Some rate.Push
rate_kind_of (Some (token.Keyword keyword.Pop)) = Some rate.Pop
rate_kind_of (Some (token.Keyword keyword.Peek)) = Some rate.Peek
rate_kind_of _ = None

-- the kind of rate whose keyword comes first
unfoldable pub rate_kind : List TokenKind → Option RateKind
rate_kind tokens = rate_kind_of (first tokens)

-- whether a rate of this kind is among these
unfoldable pub has_rate : RateKind → List tree.Rate → Bool
has_rate kind rates = list_any (λ r. sameb rate_type r.kind kind) rates

-- The limit is the greatest height of an expression in what is read; the reader of statements has
-- its own.

-- a rate of this kind, which the rates so far don't have: at its keyword
unfoldable pub rate_of : ℕ → RateKind → List tree.Rate → List TokenKind → Tall tree.Expr
rate_of limit kind so_far tokens = if has_rate kind so_far then unexpected tokens
    else expression limit lowest_precedence (tail tokens)

abbrev pub rate_by : ℕ → List tree.Rate × ℕ → List TokenKind → Option RateKind
    → Read (List tree.Rate × ℕ)
rate_by limit so_far tokens None = unexpected tokens
rate_by limit so_far tokens (Some kind) =
    rate_of limit kind so_far.0 tokens >>= λ read. Ok
    ((so_far.0 ++ record { kind = kind; rate = read.0 } ∷ [], max so_far.1 read.1), read.2)

-- one more rate
unfoldable pub rate_turn : ℕ → List tree.Rate × ℕ → List TokenKind → Read (List tree.Rate × ℕ)
rate_turn limit so_far tokens = rate_by limit so_far tokens (rate_kind tokens)

abbrev pub no_rate_by : List TokenKind → Option RateKind → Option (List TokenKind)
no_rate_by tokens None = Some tokens
no_rate_by tokens (Some kind) = None

-- rates stop where there is no rate keyword
unfoldable pub no_rate : List TokenKind → Option (List TokenKind)
no_rate tokens = no_rate_by tokens (rate_kind tokens)

-- the rates, and the height of the highest or 0
unfoldable pub rates : ℕ → List TokenKind → Read (List tree.Rate × ℕ)
rates limit tokens = repeated no_rate (rate_turn limit) (length tokens + 1) ([], 0) tokens

-- a block with its braces, and the height of its highest statement or 0
unfoldable pub braced : Inner → List TokenKind → Tall tree.Stmts
braced inner tokens = do
  opened ← expect punctuation.OpenBrace tokens
  body ← statements inner opened
  Ok (row body.0.0, body.0.1, body.1)

-- an initialisation: after the keyword
unfoldable pub init : Inner → List TokenKind → Tall tree.Member
init inner tokens = braced inner tokens >>= λ block. Ok (tree.Init block.0, block.1, block.2)

-- whether the heading of a helper function comes: a name and the bracket of its parameters
abbrev pub is_heading_by : List TokenKind → Option TokenKind → Bool
is_heading_by tokens (Some (token.Name name)) = is_punctuation punctuation.OpenParen (tail tokens)
is_heading_by tokens _ = false

unfoldable pub is_heading : List TokenKind → Bool
is_heading tokens = is_heading_by tokens (first tokens)

-- a helper function: after its type
unfoldable pub helper_function : Inner → HelperType → List TokenKind → Tall tree.Member
helper_function inner kind tokens = do
  named ← name tokens
  opened ← expect punctuation.OpenParen named.1
  given ← closed_parameters opened
  block ← braced inner given.1
  Ok (tree.Helper kind named.0 given.0 block.0, block.1, block.2)

-- rates and a block
unfoldable pub phase : ℕ → Inner → List TokenKind → Tall (List tree.Rate × tree.Stmts)
phase limit inner tokens = do
  rated ← rates limit tokens
  block ← braced inner rated.1
  Ok ((rated.0.0, block.0), max rated.0.1 block.1, block.2)

-- fields of one type
unfoldable pub fields : ℕ → List TokenKind → Tall tree.Member
fields limit tokens = do
  read ← declared limit tokens
  rest ← expect punctuation.Semicolon read.2
  Ok (tree.Fields read.0.0 read.0.1, read.1, rest)

-- fields or a helper function, with the type that the keyword at the front is for the latter
unfoldable pub typed_member : ℕ → Inner → HelperType → List TokenKind → Tall tree.Member
typed_member limit inner kind tokens =
    if is_heading (tail tokens) then helper_function inner kind (tail tokens)
    else fields limit tokens

abbrev pub member_by : ℕ → Inner → List TokenKind → Option TokenKind → Tall tree.Member
member_by limit inner tokens (Some (token.Keyword keyword.Boolean)) =
    typed_member limit inner helper.Boolean tokens
member_by limit inner tokens (Some (token.Keyword keyword.Int)) =
    typed_member limit inner helper.Int tokens
member_by limit inner tokens (Some (token.Keyword keyword.Void)) =
    helper_function inner helper.Void (tail tokens)
member_by limit inner tokens (Some (token.Keyword keyword.Init)) = init inner (tail tokens)
member_by limit inner tokens (Some (token.Keyword keyword.Prework)) =
    phase limit inner (tail tokens) >>= λ read. Ok (tree.Prework read.0.0 read.0.1, read.1, read.2)
member_by limit inner tokens (Some (token.Keyword keyword.Work)) =
    phase limit inner (tail tokens) >>= λ read. Ok (tree.Work read.0.0 read.0.1, read.1, read.2)
member_by limit inner tokens _ = unexpected tokens

-- a member, and the height of its highest statement or expression or 0
unfoldable pub member : ℕ → Inner → List TokenKind → Tall tree.Member
member limit inner tokens = member_by limit inner tokens (first tokens)

-- the members of a filter up to the brace that closes them, and the height of the highest or 0
unfoldable pub members : ℕ → Inner → List TokenKind → Read (List tree.Member × ℕ)
members limit inner tokens = repeated brace (one_taller (member limit inner)) (length tokens + 1)
    ([], 0) tokens

-- ---- children of composite streams, each with the height of its highest part or 0

-- `A(1, 2);`: after the name
unfoldable pub named_child : ℕ → List ℕ → List TokenKind → Tall tree.Child
named_child limit name tokens = do
  given ← arguments limit tokens
  rest ← expect punctuation.Semicolon given.2
  Ok (tree.Named name given.0, given.1, rest)

-- `<int>();`: after the keyword
unfoldable pub identity : List TokenKind → Tall tree.Child
identity tokens = do
  opened ← int_items tokens
  pair ← empty_brackets opened
  rest ← expect punctuation.Semicolon pair.1
  Ok (tree.Identity pair.0, 0, rest)

-- a filter without a name: after its keyword
unfoldable pub anonymous_filter : ℕ → Inner → StreamType → List TokenKind → Tall tree.Child
anonymous_filter limit inner types tokens = do
  opened ← expect punctuation.OpenBrace tokens
  body ← members limit inner opened
  Ok (tree.AnonymousFilter types (chain body.0.0), body.0.1, body.1)

abbrev pub anonymous_by : Inner → Option StreamType → List TokenKind → Option CompositeKind
    → Tall tree.Child
anonymous_by inner types tokens None = unexpected tokens
anonymous_by inner types tokens (Some kind) =
    braced inner (tail tokens) >>= λ block. Ok
    (tree.AnonymousComposite types kind block.0, block.1, block.2)

-- a composite stream without a name: at its kind
unfoldable pub anonymous_composite : Inner → Option StreamType → List TokenKind → Tall tree.Child
anonymous_composite inner types tokens = anonymous_by inner types tokens (composite_kind tokens)

-- a stream without a name: after its type
unfoldable pub after_type : ℕ → Inner → StreamType → List TokenKind → Tall tree.Child
after_type limit inner types tokens =
    if is_keyword keyword.Filter tokens then anonymous_filter limit inner types (tail tokens)
    else anonymous_composite inner (Some types) tokens

-- the same with its type
unfoldable pub typed_child : ℕ → Inner → List TokenKind → Tall tree.Child
typed_child limit inner tokens = stream_type tokens >>= λ types.
    after_type limit inner types.0 types.1

abbrev pub keyword_child_by : ℕ → Inner → Keyword → List TokenKind → Tall tree.Child
keyword_child_by limit inner keyword.Identity tokens = identity (tail tokens)
keyword_child_by limit inner keyword.FileReader tokens =
    file (tail tokens) >>= λ read. Ok (tree.FileReader read.0, 0, read.1)
keyword_child_by limit inner keyword.FileWriter tokens =
    file (tail tokens) >>= λ read. Ok (tree.FileWriter read.0, 0, read.1)
keyword_child_by limit inner keyword.Int tokens = typed_child limit inner tokens
keyword_child_by limit inner keyword.Void tokens = typed_child limit inner tokens
keyword_child_by limit inner _ tokens = anonymous_composite inner None tokens

-- a child that begins with this keyword
unfoldable pub keyword_child : ℕ → Inner → Keyword → List TokenKind → Tall tree.Child
keyword_child limit inner found tokens = keyword_child_by limit inner found tokens

abbrev pub child_by : ℕ → Inner → List TokenKind → Option TokenKind → Tall tree.Child
child_by limit inner tokens (Some (token.Name name)) = named_child limit name (tail tokens)
child_by limit inner tokens (Some (token.Keyword found)) = keyword_child limit inner found tokens
child_by limit inner tokens _ = unexpected tokens

-- a child, with its semicolon where it has one
unfoldable pub child : ℕ → Inner → List TokenKind → Tall tree.Child
child limit inner tokens = child_by limit inner tokens (first tokens)

-- ---- statements of composite streams

-- a child for this: after its keyword
unfoldable pub child_for : ℕ → Inner → Role → List TokenKind → Tall tree.Composition
child_for depth inner role tokens = do
  read ← child (depth - 1) inner tokens
  height ← raised depth read.1
  Ok (tree.ChildOf role read.0, height, read.2)

-- `roundrobin(1, 2)`, and the height of the highest weight or 0
unfoldable pub weights : ℕ → List TokenKind → Tall (Option (List tree.Expr))
weights limit tokens = expect_keyword keyword.Roundrobin tokens >>= λ inside. arguments limit inside

-- how items are split, and the height of the highest weight or 0
unfoldable pub splitter : ℕ → List TokenKind → Tall tree.Splitter
splitter limit tokens =
    if is_keyword keyword.Duplicate tokens
    then (empty_brackets (tail tokens) >>= λ pair. Ok (tree.Duplicate pair.0, 0, pair.1))
    else (weights limit tokens >>= λ read. Ok (tree.Roundrobin read.0, read.1, read.2))

-- `split`: after the keyword
unfoldable pub split : ℕ → List TokenKind → Tall tree.Composition
split depth tokens = do
  read ← splitter (depth - 1) tokens
  rest ← expect punctuation.Semicolon read.2
  height ← raised depth read.1
  Ok (tree.Split read.0, height, rest)

-- `join`: after the keyword
unfoldable pub join : ℕ → List TokenKind → Tall tree.Composition
join depth tokens = do
  read ← weights (depth - 1) tokens
  rest ← expect punctuation.Semicolon read.2
  height ← raised depth read.1
  Ok (tree.Join read.0, height, rest)

-- `enqueue`: after the keyword
unfoldable pub enqueue : ℕ → List TokenKind → Tall tree.Composition
enqueue depth tokens = closed (expression (depth - 1)) punctuation.Semicolon tokens >>= λ value. Ok
    (tree.Enqueue value.0, value.1, value.2)

abbrev pub composition_by : ℕ → Inner → Keyword → List TokenKind → Tall tree.Composition
composition_by depth inner keyword.Add tokens = child_for depth inner role.Add (tail tokens)
composition_by depth inner keyword.Body tokens = child_for depth inner role.Body (tail tokens)
composition_by depth inner keyword.Loop tokens = child_for depth inner role.Loop (tail tokens)
composition_by depth inner keyword.Split tokens = split depth (tail tokens)
composition_by depth inner keyword.Join tokens = join depth (tail tokens)
composition_by depth inner keyword.Enqueue tokens = enqueue depth (tail tokens)
composition_by depth inner _ tokens = unexpected tokens

-- a statement of a composite stream that begins with this keyword, and the height of its part
unfoldable pub composition : ℕ → Inner → Keyword → List TokenKind → Tall tree.Composition
composition depth inner found tokens = composition_by depth inner found tokens

-- the same as a statement
unfoldable pub compose : ℕ → Inner → Keyword → List TokenKind → Tall tree.Stmt
compose depth inner found tokens = do
  read ← composition depth inner found tokens
  height ← raised depth read.1
  Ok (tree.Compose read.0, height, read.2)

-- ---- statements

abbrev pub keyword_statement_by : ℕ → Inner → Keyword → List TokenKind → Tall tree.Stmt
keyword_statement_by depth inner keyword.If tokens = branch depth inner (tail tokens)
keyword_statement_by depth inner keyword.While tokens = while_loop depth inner (tail tokens)
keyword_statement_by depth inner keyword.For tokens = for_loop depth inner (tail tokens)
keyword_statement_by depth inner keyword.Push tokens =
    argument depth (tail tokens) >>= λ read. Ok (tree.Push read.0, read.1, read.2)
keyword_statement_by depth inner keyword.Print tokens =
    argument depth (tail tokens) >>= λ read. Ok (tree.Print read.0, read.1, read.2)
keyword_statement_by depth inner keyword.Println tokens =
    argument depth (tail tokens) >>= λ read. Ok (tree.Println read.0, read.1, read.2)
keyword_statement_by depth inner keyword.Return tokens = return_value depth (tail tokens)
keyword_statement_by depth inner keyword.Add tokens = compose depth inner keyword.Add tokens
keyword_statement_by depth inner keyword.Body tokens = compose depth inner keyword.Body tokens
keyword_statement_by depth inner keyword.Loop tokens = compose depth inner keyword.Loop tokens
keyword_statement_by depth inner keyword.Split tokens = compose depth inner keyword.Split tokens
keyword_statement_by depth inner keyword.Join tokens = compose depth inner keyword.Join tokens
keyword_statement_by depth inner keyword.Enqueue tokens = compose depth inner keyword.Enqueue tokens
keyword_statement_by depth inner _ tokens = ended depth tokens

-- a statement that begins with this keyword
unfoldable pub keyword_statement : ℕ → Inner → Keyword → List TokenKind → Tall tree.Stmt
keyword_statement depth inner found tokens = keyword_statement_by depth inner found tokens

abbrev pub statement_by : ℕ → Inner → List TokenKind → Option TokenKind → Tall tree.Stmt
statement_by depth inner tokens (Some (token.Punctuation punctuation.OpenBrace)) =
    block depth inner (tail tokens)
statement_by depth inner tokens (Some (token.Keyword found)) =
    keyword_statement depth inner found tokens
statement_by depth inner tokens _ = ended depth tokens

-- a statement, after the test of its depth
unfoldable pub shallow : ℕ → Inner → List TokenKind → Tall tree.Stmt
shallow depth inner tokens = statement_by depth inner tokens (first tokens)

-- a statement of at most this height
unfoldable pub statement : ℕ → List TokenKind → Tall tree.Stmt
statement zero tokens = Err Nesting
statement (suc depth) tokens = shallow (suc depth) (statement depth) tokens

-- ---- declarations

-- the name of a stream, its parameters and the brace that opens it
unfoldable pub heading : List TokenKind → Read (List ℕ × Option (List (List ℕ)))
heading tokens = do
  named ← name tokens
  given ← parameters named.1
  rest ← expect punctuation.OpenBrace given.1
  Ok ((named.0, given.0), rest)

-- a filter: after its keyword
unfoldable pub filter : ℕ → StreamType → List TokenKind → Read tree.Declaration
filter limit types tokens = do
  head ← heading tokens
  body ← members limit (statement limit) head.1
  Ok (
    record {
      name = head.0.0;
      parameters = head.0.1;
      stream =
          tree.Filter types.input types.output body.0.0;
    },
    body.1,
  )

-- a composite stream: after its kind
unfoldable pub composite : ℕ → StreamType → CompositeKind → List TokenKind → Read tree.Declaration
composite limit types kind tokens = do
  head ← heading tokens
  body ← statements (statement limit) head.1
  Ok (
    record {
      name = head.0.0;
      parameters = head.0.1;
      stream =
          tree.Composite types kind (row body.0.0);
    },
    body.1,
  )

abbrev pub composite_by : ℕ → StreamType → List TokenKind → Option CompositeKind
    → Read tree.Declaration
composite_by limit types tokens None = unexpected tokens
composite_by limit types tokens (Some kind) = composite limit types kind (tail tokens)

-- a stream: after its type
unfoldable pub stream : ℕ → StreamType → List TokenKind → Read tree.Declaration
stream limit types tokens = if is_keyword keyword.Filter tokens then filter limit types
    (tail tokens) else composite_by limit types tokens (composite_kind tokens)

unfoldable pub declaration : ℕ → List TokenKind → Read tree.Declaration
declaration limit tokens = stream_type tokens >>= λ types. stream limit types.0 types.1

-- declarations stop at the end
unfoldable pub at_end : List TokenKind → Option (List TokenKind)
at_end [] = Some []
at_end (t ∷ rest) = None

-- all declarations of a text
unfoldable pub declarations : ℕ → List TokenKind → Read (List tree.Declaration)
declarations limit tokens = repeated at_end (one_more (declaration limit))
    (length tokens + 1) [] tokens

-- the program that the tokens spell
abbrev pub program : ℕ → List TokenKind → Result (List tree.Declaration) Fault
program limit tokens = declarations limit tokens >>= λ read. Ok read.0
