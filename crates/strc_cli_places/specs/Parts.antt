-- Parts of a program that messages speak of: its declarations, and the ends of a channel.
use Rattle.std.specs.Prelude.{◌≡◌, ℕ, ◌≢◌, List, [], All, Option, Some, None, slice_get}
use Rattle.std.specs.Option.{option_map}
use Rattle.strc_lex_names.specs.declared.place.Span.{Span}
use Rattle.strc_lex.specs.declared.token.Token.{Token}
use Rattle.strc_elab_graph.specs.NodeView.{GraphParts}
use Rattle.strc_parse_tree.specs.declared.tree.Decl.{Decl}
use Rattle.strc_parse_tree.specs.declared.tree.Program.{Program}
use Rattle.strc_cli_source.specs.Spelling.{Marks}

-- the declarations of a program; none where it has no tree
abbrev pub declarations_of : Option Program → List Decl
declarations_of None = []
declarations_of (Some program) = program.declarations.items

-- the declaration of a number
abbrev pub declaration_at : Option Program → ℕ → Option Decl
declaration_at program number = slice_get (declarations_of program) number

-- the name of a declaration is marked where it is written; nothing where there is none
abbrev pub MarksDeclaration : List ℕ → List Token → Option Decl → Option Span → Type 0
MarksDeclaration text tokens None place = place ≡ None
MarksDeclaration text tokens (Some declaration) place = Marks text tokens declaration.name place

-- no declaration is of this name
abbrev pub IsUndeclared : Option Program → List ℕ → Type 0
IsUndeclared program name = All (λ declaration. declaration.name ≢ name) (declarations_of program)

-- the nodes at the two ends of a channel
abbrev pub ends_of : Option GraphParts → ℕ → Option (ℕ × ℕ)
ends_of None channel = None
ends_of (Some graph) channel =
    option_map (λ c. (c.source.node, c.target.node)) (slice_get graph.channels channel)
