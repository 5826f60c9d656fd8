-- A declared tree as the tree that contracts speak of.
use Rattle.std.specs.Prelude.{◌≡◌, List, [], ◌∷◌, Option, map}
use Rattle.std.specs.Option.{option_map}
use Rattle.strc_lex_names.specs.declared.place.Span.{Span}
use Rattle.strc_parse_tree.specs.Tree as tree
use Rattle.strc_parse_tree.specs.declared.tree.Expr.{Expr, Row_of-Expr, end_of-Expr, more_of-Expr}
use Rattle.strc_parse_tree.specs.declared.tree.Expr.TheVariants as expr
use Rattle.strc_parse_tree.specs.declared.tree.Stmt.{Stmt, Row_of-Stmt, end_of-Stmt, more_of-Stmt}
use Rattle.strc_parse_tree.specs.declared.tree.Stmt.TheVariants as stmt
use Rattle.strc_parse_tree.specs.declared.tree.VariableType.{VariableType}
use Rattle.strc_parse_tree.specs.declared.tree.VariableType.TheVariants as kind
use Rattle.strc_parse_tree.specs.declared.tree.Variable.{Variable}
use Rattle.strc_parse_tree.specs.declared.tree.RateTree.{RateTree}
use Rattle.strc_parse_tree.specs.declared.tree.Member.{Member}
use Rattle.strc_parse_tree.specs.declared.tree.Member.TheVariants as member
use Rattle.strc_parse_tree.specs.declared.tree.Composition.{Composition}
use Rattle.strc_parse_tree.specs.declared.tree.Composition.TheVariants as composition
use Rattle.strc_parse_tree.specs.declared.tree.Child.{Child, Row_of-Member, end_of-Member}
use Rattle.strc_parse_tree.specs.declared.tree.Child.{more_of-Member}
use Rattle.strc_parse_tree.specs.declared.tree.Child.TheVariants as child
use Rattle.strc_parse_tree.specs.declared.tree.Splitter.{Splitter}
use Rattle.strc_parse_tree.specs.declared.tree.Splitter.TheVariants as splitter
use Rattle.std.specs.Global.{Vec}
use Rattle.strc_parse_tree.specs.declared.tree.FilterTree.{FilterTree}
use Rattle.strc_parse_tree.specs.declared.tree.StreamTree.{StreamTree}
use Rattle.strc_parse_tree.specs.declared.tree.StreamTree.TheVariants as stream
use Rattle.strc_parse_tree.specs.declared.tree.Decl.{Decl}
use Rattle.strc_parse_tree.specs.declared.tree.Program.{Program}

abbrev mutual
  pub expr_view : Expr → tree.Expr
  expr_view (expr.Number value) = tree.Number value
  expr_view (expr.Truth value) = tree.Truth value
  expr_view (expr.Read name) = tree.Read name
  expr_view (expr.Element' name at index) = tree.Element name (expr_view index)
  expr_view expr.Pop = tree.Pop
  expr_view (expr.Peek' origin at index) = tree.Peek (expr_view index)
  expr_view (expr.Call' name shape arguments) = tree.Call name (arguments_view arguments)
  expr_view (expr.Group' at inner) = tree.Group (expr_view inner)
  expr_view (expr.Unary' operator at operand) = tree.Unary operator (expr_view operand)
  expr_view (expr.Step operator name) = tree.Step operator name
  expr_view (expr.StepElement' operator name at index) =
      tree.StepElement operator name (expr_view index)
  expr_view (expr.Binary' operator at left at' right) =
      tree.Binary operator (expr_view left) (expr_view right)
  expr_view (expr.Conditional' at condition at' chosen at'' other) =
      tree.Conditional (expr_view condition) (expr_view chosen) (expr_view other)

  pub arguments_view : {m : _} → Row_of-Expr m → tree.Arguments
  arguments_view end_of-Expr = tree.NoArgument
  arguments_view (more_of-Expr first rest) =
      tree.Argument (expr_view first) (arguments_view rest)

-- the arguments of a call
abbrev pub listed_view : List Expr → tree.Arguments
listed_view [] = tree.NoArgument
listed_view (first ∷ rest) = tree.Argument (expr_view first) (listed_view rest)

abbrev pub type_view : VariableType → tree.VariableType
type_view kind.Boolean = tree.Boolean
type_view kind.Int = tree.Int
type_view (kind.Array length) = tree.Array (expr_view length)

abbrev pub variable_view : Variable → tree.Variable
variable_view variable = record {
  name = variable.name;
  initial =
      option_map expr_view variable.initial;
}

abbrev pub weights_view : Option (Vec Expr) → Option (List tree.Expr)
weights_view weights = option_map (λ w. map expr_view w.items) weights

abbrev pub splitter_view : Splitter → tree.Splitter
splitter_view (splitter.Duplicate brackets) = tree.Duplicate brackets
splitter_view (splitter.Roundrobin weights) = tree.Roundrobin (weights_view weights)

abbrev pub rate_view : RateTree → tree.Rate
rate_view written = record { kind = written.kind; rate = expr_view written.rate }

abbrev mutual
  pub stmt_view : Stmt → tree.Stmt
  stmt_view stmt.Empty = tree.Empty
  stmt_view (stmt.Block' shape body) = tree.Block (row_view body)
  stmt_view (stmt.Declare declared) = tree.Declare (type_view declared.kind)
      (map variable_view declared.variables.items)
  stmt_view (stmt.Evaluate value) = tree.Evaluate (expr_view value)
  stmt_view (stmt.Assign name operator value) = tree.Assign name operator (expr_view value)
  stmt_view (stmt.AssignElement name index operator value) =
      tree.AssignElement name (expr_view index) operator (expr_view value)
  stmt_view (stmt.If' condition at chosen) = tree.If (expr_view condition) (stmt_view chosen)
  stmt_view (stmt.IfElse' condition at chosen at' other) =
      tree.IfElse (expr_view condition) (stmt_view chosen) (stmt_view other)
  stmt_view (stmt.While' condition at body) = tree.While (expr_view condition) (stmt_view body)
  stmt_view (stmt.For' at first condition at' step at'' body) =
      tree.For (stmt_view first) (option_map expr_view condition) (stmt_view step) (stmt_view body)
  stmt_view (stmt.Push value) = tree.Push (expr_view value)
  stmt_view (stmt.Print value) = tree.Print (expr_view value)
  stmt_view (stmt.Println value) = tree.Println (expr_view value)
  stmt_view (stmt.Return value) = tree.Return (option_map expr_view value)
  stmt_view (stmt.Compose statement) = tree.Compose (composition_view statement)
  stmt_view (stmt.Placed' place at statement) = stmt_view statement

  pub row_view : {m : _} → Row_of-Stmt m → tree.Stmts
  row_view end_of-Stmt = tree.Done
  row_view (more_of-Stmt first rest) = tree.Then (stmt_view first) (row_view rest)

  pub composition_view : Composition → tree.Composition
  composition_view (composition.Child role child) = tree.ChildOf role (child_view child)
  composition_view (composition.Split split) = tree.Split (splitter_view split)
  composition_view (composition.Join weights) = tree.Join (weights_view weights)
  composition_view (composition.Enqueue value) = tree.Enqueue (expr_view value)

  pub child_view : Child → tree.Child
  child_view (child.Named name arguments) = tree.Named name (weights_view arguments)
  child_view (child.Identity brackets) = tree.Identity brackets
  child_view (child.FileReader text) = tree.FileReader text
  child_view (child.FileWriter text) = tree.FileWriter text
  child_view (child.Filter' types shape members) = tree.AnonymousFilter types (members_view members)
  child_view (child.Composite' types kind shape block) =
      tree.AnonymousComposite types kind (row_view block)

  pub member_view : Member → tree.Member
  member_view (member.Fields declared) = tree.Fields (type_view declared.kind)
      (map variable_view declared.variables.items)
  member_view (member.Init' shape block) = tree.Init (row_view block)
  member_view (member.Prework' rates shape block) =
      tree.Prework (map rate_view rates.items) (row_view block)
  member_view (member.Work' rates shape block) =
      tree.Work (map rate_view rates.items) (row_view block)
  member_view (member.Helper' kind name parameters shape block) =
      tree.Helper kind name parameters.items (row_view block)

  pub members_view : {m : _} → Row_of-Member m → tree.Members
  members_view end_of-Member = tree.NoMember
  members_view (more_of-Member first rest) = tree.And (member_view first) (members_view rest)

-- a statement with its place
abbrev pub IsPlacedAt : Span → Stmt → (placed : Stmt) → Type 0
IsPlacedAt place statement (stmt.Placed' written at inner) =
    (written ≡ place) × (inner ≡ statement)
IsPlacedAt place statement _ = ⊥

-- the statements of a block
abbrev pub block_view : List Stmt → tree.Stmts
block_view [] = tree.Done
block_view (first ∷ rest) = tree.Then (stmt_view first) (block_view rest)

abbrev pub filter_view : FilterTree → tree.Stream
filter_view filter = tree.Filter filter.input filter.output (map member_view filter.members.items)

abbrev pub stream_view : StreamTree → tree.Stream
stream_view (stream.Filter filter) = filter_view filter
stream_view (stream.Composite composite) =
    tree.Composite composite.types composite.kind (block_view composite.block.items)

abbrev pub declaration_view : Decl → tree.Declaration
declaration_view declaration = record {
  name = declaration.name;
  parameters = option_map (λ names. names.items) declaration.parameters;
  stream = stream_view declaration.stream;
}

abbrev pub program_view : Program → List tree.Declaration
program_view program = map declaration_view program.declarations.items
