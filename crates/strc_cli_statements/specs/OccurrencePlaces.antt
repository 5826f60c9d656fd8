-- Where what can fault so occurs in the text of a filter: of each occurrence, in order of the text,
-- the place of the innermost statement with a place around it, where there is one.
use Rattle.std.specs.Prelude.{◌≡◌, ℕ, ◌==◌, Bool, false, List, [], ◌∷◌, ◌++◌, Option, Some, None}
use Rattle.std.specs.Prelude.{map, replicate, length, if◌then◌else◌}
use Rattle.std.specs.List.{list_all}
use Rattle.std.specs.Option.{option_map}
use Rattle.strc_lex_names.specs.declared.place.Span.{Span}
use Rattle.strc_parse_tree.specs.declared.tree.Stmt.{Stmt, Row_of-Stmt, end_of-Stmt, more_of-Stmt}
use Rattle.strc_parse_tree.specs.declared.tree.Stmt.TheVariants as stmt
use Rattle.strc_parse_tree.specs.declared.tree.Member.{Member}
use Rattle.strc_parse_tree.specs.declared.tree.Member.TheVariants as member
use Rattle.strc_parse_tree.specs.View.{expr_view, stmt_view, block_view, variable_view, member_view}
use Rattle.strc_cli_statements.specs.Occurrences.{one, expression_count, option_count}
use Rattle.strc_cli_statements.specs.Occurrences.{variables_count}
use Rattle.strc_cli_statements.specs.Occurrences.{stmt_count, row_count, start_count, helpers_count}
use Rattle.strc_cli_statements.specs.declared.occurrences.Sought.{Sought}
use Rattle.strc_cli_statements.specs.declared.occurrences.Sought.TheVariants as sought

abbrev mutual
  -- in a statement, where the innermost one with a place around it is this
  pub stmt_places : Sought → Option Span → Stmt → List (Option Span)
  stmt_places looked here (stmt.Placed' place at inner) = stmt_places looked (Some place) inner
  stmt_places looked here (stmt.Block' shape body) = row_places looked here body
  stmt_places looked here (stmt.If' condition at chosen) =
      replicate (expression_count looked (expr_view condition)) here
      ++ stmt_places looked here chosen
  stmt_places looked here (stmt.IfElse' condition at chosen at' other) =
      replicate (expression_count looked (expr_view condition)) here
      ++ stmt_places looked here chosen ++ stmt_places looked here other
  stmt_places looked here (stmt.While' condition at body) =
      replicate (one looked sought.Turn) here
      ++ replicate (expression_count looked (expr_view condition)) here
      ++ stmt_places looked here body
  stmt_places looked here (stmt.For' at first condition at' step at'' body) =
      replicate (one looked sought.Turn) here ++ stmt_places looked here first
      ++ replicate (option_count looked (option_map expr_view condition)) here
      ++ stmt_places looked here step ++ stmt_places looked here body
  -- any other has no statement in it
  stmt_places looked here other = replicate (stmt_count looked (stmt_view other)) here

  pub row_places : Sought → Option Span → {m : _} → Row_of-Stmt m → List (Option Span)
  row_places looked here end_of-Stmt = []
  row_places looked here (more_of-Stmt first rest) =
      stmt_places looked here first ++ row_places looked here rest

-- in the statements of a block
abbrev pub block_places : Sought → Option Span → List Stmt → List (Option Span)
block_places looked here [] = []
block_places looked here (first ∷ rest) =
    stmt_places looked here first ++ block_places looked here rest

-- in what a filter starts with: the initialisers of its fields, whose declaration has a place,
-- `init`, and the helper functions, any of which may be called there
abbrev pub member_places : Sought → Member → List (Option Span)
member_places looked (member.Fields fields) =
    replicate (variables_count looked (map variable_view fields.variables.items))
    (Some fields.place)
member_places looked (member.Init' shape block) = row_places looked None block
member_places looked (member.Prework' rates shape block) = []
member_places looked (member.Work' rates shape block) = []
member_places looked (member.Helper' kind name parameters shape block) =
    row_places looked None block

abbrev pub start_places : Sought → List Member → List (Option Span)
start_places looked [] = []
start_places looked (first ∷ rest) = member_places looked first ++ start_places looked rest

-- in the helper functions of a filter, any of which a body may call
abbrev pub helper_places : Sought → Member → List (Option Span)
helper_places looked (member.Fields fields) = []
helper_places looked (member.Init' shape block) = []
helper_places looked (member.Prework' rates shape block) = []
helper_places looked (member.Work' rates shape block) = []
helper_places looked (member.Helper' kind name parameters shape block) =
    row_places looked None block

abbrev pub helpers_places : Sought → List Member → List (Option Span)
helpers_places looked [] = []
helpers_places looked (first ∷ rest) = helper_places looked first ++ helpers_places looked rest

-- there are as many places as occurrences
abbrev pub BlockPlacesAreCounted : Type 0
BlockPlacesAreCounted = (looked : Sought) (here : Option Span) (block : List Stmt)
    → length (block_places looked here block) ≡ row_count looked (block_view block)

abbrev pub StartPlacesAreCounted : Type 0
StartPlacesAreCounted = (looked : Sought) (members : List Member)
    → length (start_places looked members) ≡ start_count looked (map member_view members)

abbrev pub HelpersPlacesAreCounted : Type 0
HelpersPlacesAreCounted = (looked : Sought) (members : List Member)
    → length (helpers_places looked members) ≡ helpers_count looked (map member_view members)

-- there is a place, and it begins at this byte of the text
abbrev pub begins_at : ℕ → Option Span → Bool
begins_at start None = false
begins_at start (Some place) = place.start == start

-- the first of these, if all of them begin where it does
abbrev pub single_place : List (Option Span) → Option Span
single_place [] = None
single_place (None ∷ rest) = None
single_place (Some first ∷ rest) =
    if list_all (begins_at first.start) (Some first ∷ rest) then Some first else None
