-- Which streams the statements of a text add, by the places of these statements.
use Rattle.std.specs.Prelude.{◌≡◌, ℕ, ◌==◌, bytes_eq, List, [], ◌∷◌, ◌++◌, Option, Some, None, find}
use Rattle.std.specs.Prelude.{if◌then◌else◌, Any, Bool, true, false}
use Rattle.std.specs.Option.{option_or, option_and_then}
use Rattle.strc_lex_names.specs.declared.place.Span.{Span}
use Rattle.strc_parse_tree.specs.declared.tree.Stmt.{Stmt, Row_of-Stmt, end_of-Stmt, more_of-Stmt}
use Rattle.strc_parse_tree.specs.declared.tree.Stmt.{items-the_row-Stmt}
use Rattle.strc_parse_tree.specs.declared.tree.Stmt.TheVariants as stmt
use Rattle.strc_parse_tree.specs.declared.tree.Member.{Member}
use Rattle.strc_parse_tree.specs.declared.tree.Composition.TheVariants as composition
use Rattle.strc_parse_tree.specs.declared.tree.Child.{Child, items-the_row-Member}
use Rattle.strc_parse_tree.specs.declared.tree.Child.TheVariants as child
use Rattle.strc_parse_tree.specs.declared.tree.StreamTree.{StreamTree}
use Rattle.strc_parse_tree.specs.declared.tree.StreamTree.TheVariants as stream
use Rattle.strc_parse_tree.specs.declared.tree.Decl.{Decl}
use Rattle.strc_parse_tree.specs.declared.tree.Program.{Program}
use Rattle.strc_parse_tree.specs.View.{declaration_view}
use Rattle.strc_elab_statements.specs.MainStreams.{can_be_main}
use Rattle.strc_work_rules.specs.declared.site.Part.{Part}
use Rattle.strc_work_rules.specs.declared.site.Part.TheVariants as part
use Rattle.strc_cli_places.specs.Parts.{declarations_of}
use Rattle.strc_cli_source.specs.Spelling.{between}

-- the first declaration of a name
abbrev pub declared_as : List ℕ → Option Program → Option Decl
declared_as name program =
    find (λ declaration. bytes_eq declaration.name name) (declarations_of program)

-- the child that a statement adds
abbrev pub added_by : Stmt → Option Child
added_by (stmt.Compose (composition.Child role added)) = Some added
added_by other = None

abbrev mutual
  -- the child that is added by the first statement at this byte of the text, of one and of those in
  -- it
  pub child_in : (at : ℕ) → Stmt → Option Child
  child_in at (stmt.Placed' place here inner) =
      if place.start == at then added_by inner else child_in at inner
  child_in at (stmt.Block' shape block) = child_in_row at block
  child_in at (stmt.If' condition here chosen) = child_in at chosen
  child_in at (stmt.IfElse' condition here chosen here' other) =
      option_or (child_in at chosen) (child_in at other)
  child_in at (stmt.While' condition here body) = child_in at body
  child_in at (stmt.For' here first condition here' step here'' body) = child_in at body
  child_in at (stmt.Compose (composition.Child role added)) = child_below at added
  child_in at other = None

  -- of the statements of a stream that has no name
  pub child_below : (at : ℕ) → Child → Option Child
  child_below at (child.Composite' types kind shape block) = child_in_row at block
  child_below at other = None

  pub child_in_row : (at : ℕ) → {m : _} → Row_of-Stmt m → Option Child
  child_in_row at end_of-Stmt = None
  child_in_row at (more_of-Stmt first rest) = option_or (child_in at first) (child_in_row at rest)

-- of the statements of a block
abbrev pub child_in_block : (at : ℕ) → List Stmt → Option Child
child_in_block at [] = None
child_in_block at (first ∷ rest) = option_or (child_in at first) (child_in_block at rest)

abbrev pub child_in_stream : (at : ℕ) → StreamTree → Option Child
child_in_stream at (stream.Filter filter) = None
child_in_stream at (stream.Composite composite) = child_in_block at composite.block.items

abbrev pub child_added : (at : ℕ) → List Decl → Option Child
child_added at [] = None
child_added at (first ∷ rest) = option_or (child_in_stream at first.stream) (child_added at rest)

-- the members of a filter
abbrev pub stream_members : StreamTree → Option (List Member)
stream_members (stream.Filter filter) = Some filter.members.items
stream_members (stream.Composite composite) = None

abbrev pub child_members : Child → Option (List Member)
child_members (child.Filter' types shape members) = Some (items-the_row-Member _ members)
child_members other = None

abbrev pub members_of : Option Decl → Option Child → Option (List Member)
members_of None added = option_and_then child_members added
members_of (Some declaration) added = stream_members declaration.stream

-- of the filter that is declared by the name at a place, or added there without one
abbrev pub members_at : (text : List ℕ) → Option Program → Span → Option (List Member)
members_at text program place = members_of (declared_as (between text place) program)
    (child_added place.start (declarations_of program))

-- the statements of a composite stream
abbrev pub stream_block : StreamTree → Option (List Stmt)
stream_block (stream.Filter filter) = None
stream_block (stream.Composite composite) = Some composite.block.items

abbrev pub declared_block : Option Decl → Option (List Stmt)
declared_block None = None
declared_block (Some declaration) = stream_block declaration.stream

-- of the one that a child is
abbrev pub child_block : Option Program → Child → Option (List Stmt)
child_block program (child.Named name arguments) = declared_block (declared_as name program)
child_block program (child.Composite' types kind shape block) =
    Some (items-the_row-Stmt _ block)
child_block program other = None

-- the main stream: the one that is asked for, or else the first that can be it
abbrev pub main_of : (asked : Option (List ℕ)) → Option Program → Option Decl
main_of (Some name) program = declared_as name program
main_of None program =
    find (λ declaration. can_be_main (declaration_view declaration)) (declarations_of program)

-- of the composite stream that a statement adds, and without a statement of the main stream
abbrev pub block_added : (asked : Option (List ℕ)) → Option Program → (added : Option Span)
    → Option (List Stmt)
block_added asked program None = declared_block (main_of asked program)
block_added asked program (Some place) = option_and_then (child_block program)
    (child_added place.start (declarations_of program))

-- a statement is a `split`, or a `join`
abbrev pub is_part : Part → Stmt → Bool
is_part part.Split (stmt.Compose (composition.Split splitter)) = true
is_part part.Join (stmt.Compose (composition.Join weights)) = true
is_part sought other = false

abbrev mutual
  -- the first such statement in one, without those of children
  pub part_in : Part → Stmt → Option Span
  part_in sought (stmt.Placed' place at inner) =
      if is_part sought inner then Some place else part_in sought inner
  part_in sought (stmt.Block' shape block) = part_in_row sought block
  part_in sought (stmt.If' condition at chosen) = part_in sought chosen
  part_in sought (stmt.IfElse' condition at chosen at' other) =
      option_or (part_in sought chosen) (part_in sought other)
  part_in sought (stmt.While' condition at body) = part_in sought body
  part_in sought (stmt.For' at first condition at' step at'' body) = part_in sought body
  part_in sought other = None

  pub part_in_row : Part → {m : _} → Row_of-Stmt m → Option Span
  part_in_row sought end_of-Stmt = None
  part_in_row sought (more_of-Stmt first rest) =
      option_or (part_in sought first) (part_in_row sought rest)

abbrev pub part_in_block : Part → List Stmt → Option Span
part_in_block sought [] = None
part_in_block sought (first ∷ rest) =
    option_or (part_in sought first) (part_in_block sought rest)

-- the first `split` or `join` of the composite stream that a statement adds
abbrev pub part_statement : (asked : Option (List ℕ)) → Option Program → (added : Option Span)
    → Part → Option Span
part_statement asked program added sought =
    option_and_then (part_in_block sought) (block_added asked program added)

-- a declared stream that is added by a statement with a place: the place, and the stream's name
abbrev pub named_at : (here : Option Span) → List ℕ → List (Span × List ℕ)
named_at None name = []
named_at (Some place) name = (place, name) ∷ []

abbrev mutual
  -- the declared streams that are added in a statement, where the innermost one with a place around
  -- it is this
  pub additions_in : (here : Option Span) → Stmt → List (Span × List ℕ)
  additions_in here (stmt.Placed' place at inner) = additions_in (Some place) inner
  additions_in here (stmt.Block' shape block) = additions_in_row block
  additions_in here (stmt.If' condition at chosen) = additions_in here chosen
  additions_in here (stmt.IfElse' condition at chosen at' other) =
      additions_in here chosen ++ additions_in here other
  additions_in here (stmt.While' condition at body) = additions_in here body
  additions_in here (stmt.For' at first condition at' step at'' body) = additions_in here body
  additions_in here (stmt.Compose (composition.Child role added)) = additions_below here added
  additions_in here other = []

  pub additions_below : (here : Option Span) → Child → List (Span × List ℕ)
  additions_below here (child.Named name arguments) = named_at here name
  additions_below here (child.Composite' types kind shape block) = additions_in_row block
  additions_below here other = []

  pub additions_in_row : {m : _} → Row_of-Stmt m → List (Span × List ℕ)
  additions_in_row end_of-Stmt = []
  additions_in_row (more_of-Stmt first rest) = additions_in None first ++ additions_in_row rest

-- in the statements of a block
abbrev pub additions_in_block : List Stmt → List (Span × List ℕ)
additions_in_block [] = []
additions_in_block (first ∷ rest) = additions_in None first ++ additions_in_block rest

abbrev pub additions_in_stream : StreamTree → List (Span × List ℕ)
additions_in_stream (stream.Filter filter) = []
additions_in_stream (stream.Composite composite) = additions_in_block composite.block.items

-- the first declared stream of a name adds one of this name
abbrev pub Adds : Option Program → (name : List ℕ) → (added : List ℕ) → Type 0
Adds program name added = (declaration : Decl) × (declared_as name program ≡ Some declaration)
    × Any (λ addition. addition.1 ≡ added) (additions_in_stream declaration.stream)

-- a stream is another one, or adds it, or adds one that leads to it
pub data LeadsTo (program : Option Program) (name : List ℕ) : List ℕ → Type 0 where
  Itself : LeadsTo program name name
  Further : {through added : List ℕ} (leads : LeadsTo program name through)
      (adds : Adds program through added) → LeadsTo program name added

-- a statement of a declared stream adds one that leads to it again
abbrev pub IsRecursive : Option Program → Span → Type 0
IsRecursive program place = (declaration : Decl) × (name : List ℕ)
    × (declared_as declaration.name program ≡ Some declaration)
    × Any (λ addition. addition ≡ (place, name)) (additions_in_stream declaration.stream)
    × LeadsTo program name declaration.name
