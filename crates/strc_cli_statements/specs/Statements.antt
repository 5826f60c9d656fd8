-- Which statement of a filter is marked: the first with a peek outside of its window, the innermost
-- one that can't be counted, and the only one where a firing can fault so.
use Rattle.std.specs.Prelude.{Bool, true, List, [], ◌∷◌, ◌++◌, Option, Some, None}
use Rattle.std.specs.Prelude.{is_some, if◌then◌else◌}
use denote.Enum.Bare.{sameb}
use Rattle.strc_lex_names.specs.declared.place.Span.{Span}
use Rattle.strc_parse_tree.specs.declared.tree.FilterTree.{FilterTree}
use Rattle.strc_parse_tree.specs.declared.tree.Member.{Member}
use Rattle.strc_parse_tree.specs.declared.tree.Stmt.{Stmt, Row_of-Stmt, end_of-Stmt, more_of-Stmt}
use Rattle.strc_parse_tree.specs.declared.tree.Stmt.TheVariants as stmt
use Rattle.strc_parse_tree.specs.View.{block_view, row_view}
use Rattle.strc_work_meaning.specs.declared.body.Body.{Body}
use Rattle.strc_work_meaning.specs.declared.body.Body.TheVariants as body
use Rattle.strc_work_meaning.specs.declared.fault.Cause.{Cause}
use Rattle.strc_work_meaning.specs.declared.fault.Cause.TheVariants as cause
use Rattle.strc_work_meaning.specs.Filters.{filter_of, body_rates, window_size}
use Rattle.strc_work_code.specs.Bodies.{body_statements}
use Rattle.strc_rate.specs.Counts.{stmts_counts}
use Rattle.strc_rate.specs.Peeks.{body_sights}
use Rattle.strc_rate.specs.contracts.sight.PeekBounds.{the_type as bounds_type}
use Rattle.strc_rate.specs.declared.sight.PeekBounds.{PeekBounds}
use Rattle.strc_rate.specs.declared.sight.PeekBounds.TheVariants as bounds
use Rattle.strc_cli_statements.specs.Occurrences.{sought_for}
use Rattle.strc_cli_statements.specs.OccurrencePlaces.{block_places, start_places, helpers_places}
use Rattle.strc_cli_statements.specs.OccurrencePlaces.{single_place}
use Rattle.strc_cli_statements.specs.declared.occurrences.Sought.{Sought}
use Rattle.strc_cli_statements.specs.declared.occurrences.Sought.TheVariants as sought

-- the places of those of which this is known
abbrev pub places_where : PeekBounds → List PeekBounds → List (Option Span) → List (Option Span)
places_where known [] places = []
places_where known (sight ∷ sights) [] = []
places_where known (sight ∷ sights) (place ∷ places) = if sameb bounds_type sight known
    then place ∷ places_where known sights places else places_where known sights places

-- the places of the peeks of a body of which this is known, in order of the text
abbrev pub peek_places : PeekBounds → Body → FilterTree → List (Option Span)
peek_places known body filter = places_where known
    (body_sights (window_size (body_rates body (filter_of filter).members))
    (block_view (body_statements body filter.members.items)))
    (block_places sought.Peek None (body_statements body filter.members.items))

abbrev pub first_place : List (Option Span) → Option Span
first_place [] = None
first_place (first ∷ rest) = first

-- the first statement with a peek that can't be within its window
abbrev pub outside_place : FilterTree → Option Span
outside_place filter = first_place
    (peek_places bounds.Outside body.Prework filter ++ peek_places bounds.Outside body.Work filter)

-- the items that statements move can be counted
abbrev pub are_counted : List Stmt → Bool
are_counted block = is_some (stmts_counts [] (block_view block))

-- a body's items can be counted; of one without braces it isn't found out
abbrev pub is_counted : Stmt → Bool
is_counted (stmt.Placed' place at inner) = is_counted inner
is_counted (stmt.Block' shape block) = is_some (stmts_counts [] (row_view block))
is_counted other = true

abbrev mutual
  -- the innermost statement in one that can't be counted, where the innermost one with a place
  -- around it is this
  pub uncounted_in : Option Span → Stmt → Option Span
  uncounted_in here (stmt.Placed' place at inner) = uncounted_in (Some place) inner
  uncounted_in here (stmt.Block' shape block) = uncounted_row here [] block
  uncounted_in here (stmt.If' condition at chosen) =
      if is_counted chosen then here else uncounted_in here chosen
  uncounted_in here (stmt.IfElse' condition at chosen at' other) = if is_counted chosen
      then (if is_counted other then here else uncounted_in here other)
      else uncounted_in here chosen
  uncounted_in here (stmt.While' condition at body) =
      if is_counted body then here else uncounted_in here body
  uncounted_in here (stmt.For' at first condition at' step at'' body) =
      if is_counted body then here else uncounted_in here body
  uncounted_in here other = here

  -- of statements after these, the first with which they can't be counted any more
  pub uncounted_row : Option Span → (before : List Stmt) → {m : _} → Row_of-Stmt m → Option Span
  uncounted_row here before end_of-Stmt = here
  uncounted_row here before (more_of-Stmt first rest) = if are_counted (before ++ (first ∷ []))
      then uncounted_row here (before ++ (first ∷ [])) rest else uncounted_in here first

-- in a statement's body; the statement itself, where its body can be counted
abbrev pub uncounted_below : Option Span → (body : Stmt) → Option Span
uncounted_below here body = if is_counted body then here else uncounted_in here body

-- of the statements of a block, after these
abbrev pub uncounted_after : Option Span → (before : List Stmt) → List Stmt → Option Span
uncounted_after here before [] = here
uncounted_after here before (first ∷ rest) = if are_counted (before ++ (first ∷ []))
    then uncounted_after here (before ++ (first ∷ [])) rest else uncounted_in here first

abbrev pub uncounted_among : Option Span → List Stmt → Option Span
uncounted_among here block = uncounted_after here [] block

-- the innermost statement of the first body that can't be counted
abbrev pub uncounted_place : FilterTree → Option Span
uncounted_place filter = let first = body_statements body.Prework filter.members.items in
    let later = body_statements body.Work filter.members.items in
    if are_counted first then uncounted_among None later else uncounted_among None first

-- where this occurs in a firing: in its body, and in the helper functions, any of which it may call
abbrev pub firing_places : Sought → Body → FilterTree → List (Option Span)
firing_places looked body filter =
    block_places looked None (body_statements body filter.members.items)
    ++ helpers_places looked filter.members.items

-- where a firing can fault so; only a call in a helper function can be one too many at once
abbrev pub fault_places : Cause → Body → FilterTree → List (Option Span)
fault_places cause.DivZero body filter = firing_places sought.Division body filter
fault_places cause.Index body filter = firing_places sought.Element body filter
fault_places cause.PeekRange body filter = peek_places bounds.Open body filter
fault_places cause.Turns body filter = firing_places sought.Turn body filter
fault_places cause.Calls body filter = helpers_places sought.Call filter.members.items

-- the only statement where a firing can fault so
abbrev pub fault_place : Cause → Body → FilterTree → Option Span
fault_place cause body filter = single_place (fault_places cause body filter)

-- where what a filter starts with can fault so; only a call in a helper function can be one too
-- many at once
abbrev pub start_fault_places : Cause → List Member → List (Option Span)
start_fault_places cause.Calls members = helpers_places sought.Call members
start_fault_places other members = start_places (sought_for other) members

abbrev pub start_fault_place : Cause → List Member → Option Span
start_fault_place cause members = single_place (start_fault_places cause members)
