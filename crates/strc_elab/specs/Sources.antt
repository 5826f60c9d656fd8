-- The texts of streams with the places of their statements.
use Rattle.std.specs.Prelude.{ℕ, List, [], ◌∷◌, Option, Some, None, nat_eq, slice_get}
use Rattle.std.specs.Prelude.{if◌then◌else◌}
use Rattle.std.specs.Cmp.Lexicographic.{pointwise}
use Rattle.strc_parse_tree.specs.declared.tree.StreamType.{StreamType}
use Rattle.strc_parse_tree.specs.declared.tree.CompositeKind.{CompositeKind}
use Rattle.strc_parse_tree.specs.declared.tree.Member.{Member}
use Rattle.strc_parse_tree.specs.declared.tree.Stmt.{Stmt, Row_of-Stmt, end_of-Stmt, more_of-Stmt}
use Rattle.strc_parse_tree.specs.declared.tree.Child.{Child, Row_of-Member, end_of-Member}
use Rattle.strc_parse_tree.specs.declared.tree.Child.{more_of-Member}
use Rattle.strc_parse_tree.specs.declared.tree.Child.TheVariants as child
use Rattle.strc_parse_tree.specs.declared.tree.StreamTree.{StreamTree}
use Rattle.strc_parse_tree.specs.declared.tree.StreamTree.TheVariants as stream
use Rattle.strc_parse_tree.specs.declared.tree.Decl.{Decl}
use Rattle.strc_elab.specs.declared.task.Text.{Text}
use Rattle.strc_elab.specs.declared.task.Text.TheVariants as text

-- the text of a stream, as far as it has statements, with the type that is written
pub data Source : Type 0 where
  FilterSource : (types : StreamType) (members : List Member) → Source
  CompositeSource : (written : Option StreamType) (kind : CompositeKind) (block : List Stmt)
      → Source
  GivenSource : Source

-- a row as a list
abbrev pub row_statements : {m : _} → Row_of-Stmt m → List Stmt
row_statements end_of-Stmt = []
row_statements (more_of-Stmt first rest) = first ∷ row_statements rest

abbrev pub row_members : {m : _} → Row_of-Member m → List Member
row_members end_of-Member = []
row_members (more_of-Member first rest) = first ∷ row_members rest

-- of a text that is elaborated
abbrev pub text_source : Text → Source
text_source (text.Filter name types members) = FilterSource types members.now
text_source (text.Composite written kind block) = CompositeSource written kind block.now
text_source text.Identity = GivenSource
text_source (text.Reader between) = GivenSource
text_source (text.Writer between) = GivenSource

-- of a declared stream
abbrev pub stream_source : StreamTree → Source
stream_source (stream.Filter filter) =
    FilterSource (record { input = filter.input; output = filter.output }) filter.members.items
stream_source (stream.Composite composite) =
    CompositeSource (Some composite.types) composite.kind composite.block.items

abbrev pub declaration_source : Decl → Source
declaration_source declaration = stream_source declaration.stream

-- of the first declaration of a name
abbrev pub named_source : List Decl → List ℕ → Source
named_source [] name = GivenSource
named_source (first ∷ others) name = if pointwise nat_eq name first.name
    then declaration_source first else named_source others name

-- of the declaration of a number
abbrev pub known_source : Option Decl → Source
known_source None = GivenSource
known_source (Some declaration) = declaration_source declaration

abbrev pub numbered_source : List Decl → ℕ → Source
numbered_source declarations number = known_source (slice_get declarations number)

-- of a child, among these declarations
abbrev pub child_source : List Decl → Child → Source
child_source declarations (child.Named name arguments) = named_source declarations name
child_source declarations (child.Identity brackets) = GivenSource
child_source declarations (child.FileReader between) = GivenSource
child_source declarations (child.FileWriter between) = GivenSource
child_source declarations (child.Filter' types shape members) =
    FilterSource types (row_members members)
child_source declarations (child.Composite' written kind shape block) =
    CompositeSource written kind (row_statements block)
