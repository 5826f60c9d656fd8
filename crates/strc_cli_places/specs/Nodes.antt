-- Where nodes and channels are marked.
use Rattle.std.specs.Prelude.{◌≡◌, ℕ, is_some, if◌then◌else◌, List, slice_get}
use Rattle.std.specs.Prelude.{Option, Some, None, IfSome}
use Rattle.std.specs.Option.{option_map, option_or, option_and_then}
use Rattle.strc_lex_names.specs.declared.place.Span.{Span}
use Rattle.strc_lex.specs.declared.token.Token.{Token}
use Rattle.strc_parse_tree.specs.declared.tree.Program.{Program}
use Rattle.strc_work_rules.specs.declared.site.Part.{Part}
use Rattle.strc_cli_source.specs.declared.preorder.Origin.{Origin}
use Rattle.strc_cli_source.specs.declared.preorder.Preorder.{Preorder}
use Rattle.strc_cli_source.specs.declared.preorder.Seen.{Seen}
use Rattle.strc_cli_source.specs.Headings.{heading}
use Rattle.strc_cli_source.specs.Spelling.{Marks}
use Rattle.strc_cli_places.specs.Streams.{part_statement}

-- the name by which a node is declared in the text
abbrev pub name_if_declared : Option Seen → Option (List ℕ)
name_if_declared None = None
name_if_declared (Some seen) = if is_some seen.origin.declared then Some seen.name.items else None

abbrev pub declared_name : Option Preorder → ℕ → Option (List ℕ)
declared_name None node = None
declared_name (Some order) node = name_if_declared (slice_get order.nodes.items node)

-- the name is marked where it is written, where there is one
abbrev pub MarksName : List ℕ → List Token → Option (List ℕ) → Option Span → Type 0
MarksName text tokens name place = IfSome name (λ bytes. Marks text tokens bytes place)

-- where a node comes from
abbrev pub origin_at : Option Preorder → ℕ → Option Origin
origin_at None node = None
origin_at (Some order) node = option_map (λ seen. seen.origin) (slice_get order.nodes.items node)

-- the statement that a node comes from: the one that adds it, and of a part of a composite stream
-- the first for this part
abbrev pub part_or_added : (asked : Option (List ℕ)) → Option Program → (added : Option Span)
    → Option Part → Option Span
part_or_added asked program added None = added
part_or_added asked program added (Some sought) = part_statement asked program added sought

abbrev pub node_statement : (asked : Option (List ℕ)) → Option Program → Option Preorder
    → (node : ℕ) → Option Span
node_statement asked program order node = option_and_then
    (λ origin. part_or_added asked program origin.added origin.part) (origin_at order node)

-- what is marked of a statement, where there is one
abbrev pub heading_of : List Token → Option Span → Option Span
heading_of tokens statement = option_map (λ at. heading at tokens) statement

-- the name is marked where it is written, and without one the heading of the statement
abbrev pub MarksNode : List ℕ → List Token → (name : Option (List ℕ)) → (statement : Option Span)
    → Option Span → Type 0
MarksNode text tokens None statement place = place ≡ heading_of tokens statement
MarksNode text tokens (Some bytes) statement place = Marks text tokens bytes place

-- the same of a node of a program, by its number
abbrev pub MarksNodeOf : List ℕ → List Token → (asked : Option (List ℕ)) → Option Program
    → Option Preorder → (node : ℕ) → Option Span → Type 0
MarksNodeOf text tokens asked program order node place =
    MarksNode text tokens (declared_name order node) (node_statement asked program order node) place

-- of a statement that is found its heading is marked, or else the node that has it
abbrev pub MarksStatement : List ℕ → List Token → (found : Option Span)
    → (name : Option (List ℕ)) → (statement : Option Span) → Option Span → Type 0
MarksStatement text tokens None name statement place =
    MarksNode text tokens name statement place
MarksStatement text tokens (Some at) name statement place = place ≡ Some (heading at tokens)

-- of two names the first that there is
abbrev pub first_name : (source target : Option (List ℕ)) → Option (List ℕ)
first_name (Some name) target = Some name
first_name None target = target

-- of a channel the node at its source is marked where it is declared, or else the one at its
-- target; with neither declared the statement that one of them comes from
abbrev pub MarksChannel : List ℕ → List Token → (asked : Option (List ℕ)) → Option Program
    → Option Preorder → (ends : Option (ℕ × ℕ)) → Option Span → Type 0
MarksChannel text tokens asked program order ends place =
    IfSome ends (λ nodes. MarksNode text tokens
    (first_name (declared_name order nodes.0) (declared_name order nodes.1))
    (option_or (node_statement asked program order nodes.0)
    (node_statement asked program order nodes.1)) place)
