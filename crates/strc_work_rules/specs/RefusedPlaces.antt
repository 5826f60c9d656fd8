-- Where a filter's text is refused: at the innermost statement, rate or declaration of fields that
-- is around what breaks the rule, or at what is around the filter.
use Rattle.std.specs.Prelude.{◌≡◌, ℕ, ℤ, List, [], ◌∷◌, length, map, Option, Some, None, Result}
use Rattle.std.specs.Prelude.{Ok, Err, if◌then◌else◌}
use Rattle.std.specs.Option.{option_map}
use Rattle.strc_lex_names.specs.Names.{has_name}
use Rattle.strc_lex_names.specs.declared.place.Span.{Span}
use Rattle.strc_parse_tree.specs.Tree as tree
use Rattle.strc_parse_tree.specs.View.{expr_view, stmt_view, member_view, rate_view}
use Rattle.strc_parse_tree.specs.declared.tree.ItemType.{ItemType}
use Rattle.strc_parse_tree.specs.declared.tree.Member.{Member}
use Rattle.strc_parse_tree.specs.declared.tree.Member.TheVariants as member
use Rattle.strc_parse_tree.specs.declared.tree.RateTree.{RateTree}
use Rattle.strc_parse_tree.specs.declared.tree.Stmt.{Stmt, Row_of-Stmt, end_of-Stmt, more_of-Stmt}
use Rattle.strc_parse_tree.specs.declared.tree.Stmt.TheVariants as stmt
use Rattle.strc_work_meaning.specs.Filters.{members_of}
use Rattle.strc_work_meaning.specs.Typing.{TypedNames, names_after, names_after_fields}
use Rattle.strc_work_meaning.specs.declared.types.ValueType.TheVariants.{Boolean}
use Rattle.strc_work_rules.specs.Resolution.{Context, expr_as, initial_resolved, stmt_resolved}
use Rattle.strc_work_rules.specs.Resolution.{rate_resolved, rates_resolved, parameters_resolved}
use Rattle.strc_work_rules.specs.Resolution.{member_resolved, fields_after, known_after, has_parts}
use Rattle.strc_work_rules.specs.Resolution.{start_context, body_context, helper_context}
use Rattle.strc_work_rules.specs.Signatures.{Signatures, signatures_after, with_parameters}
use Rattle.strc_work_rules.specs.declared.error.LowerError.{LowerError}
use Rattle.strc_work_rules.specs.declared.error.LowerErrorKind.TheVariants as refused

-- of two parts in turn the place in the first, if that is refused, and else in the next
abbrev pub place_in : {A : Type 0} → Result A LowerError → (own next : Option Span) → Option Span
place_in (Ok value) own next = next
place_in (Err refusal) own next = own

-- in a loop with a heading, of which the first part, the step and the body have these places
abbrev pub loop_place : Context → TypedNames → (here : Option Span) → (first : tree.Stmt)
    → (in_first : Option Span) → (condition : Option tree.Expr) → (step : tree.Stmt)
    → (in_step in_body : Option Span) → Option Span
loop_place context names here first in_first condition step in_step in_body =
    place_in (stmt_resolved context names (length names) first) in_first
    (place_in (initial_resolved context (names_after names first) Boolean condition) here
    (place_in (stmt_resolved context (names_after names first) (length (names_after names first))
    step) in_step in_body))

abbrev mutual
  -- in a statement, where the innermost place around it is this
  pub stmt_place : Context → TypedNames → (outer : ℕ) → (here : Option Span) → Stmt → Option Span
  stmt_place context names outer here (stmt.Placed' place at inner) =
      stmt_place context names outer (Some place) inner
  stmt_place context names outer here (stmt.Block' shape block) =
      row_place context names (length names) here block
  stmt_place context names outer here (stmt.If' condition at chosen) =
      place_in (expr_as context names Boolean (expr_view condition)) here
      (stmt_place context names (length names) here chosen)
  stmt_place context names outer here (stmt.IfElse' condition at chosen at' other) =
      place_in (expr_as context names Boolean (expr_view condition)) here
      (place_in (stmt_resolved context names (length names) (stmt_view chosen))
      (stmt_place context names (length names) here chosen)
      (stmt_place context names (length names) here other))
  stmt_place context names outer here (stmt.While' condition at body) =
      place_in (expr_as context names Boolean (expr_view condition)) here
      (stmt_place context names (length names) here body)
  stmt_place context names outer here (stmt.For' at first condition at' step at'' body) =
      loop_place context names here (stmt_view first)
      (stmt_place context names (length names) here first) (option_map expr_view condition)
      (stmt_view step) (stmt_place context (names_after names (stmt_view first))
      (length (names_after names (stmt_view first))) here step)
      (stmt_place context (names_after names (stmt_view first))
      (length (names_after names (stmt_view first))) here body)
  stmt_place context names outer here other = here

  -- in the statements of a block, each among the names that are declared before it
  pub row_place : Context → TypedNames → (outer : ℕ) → (here : Option Span) → {m : _}
      → Row_of-Stmt m → Option Span
  row_place context names outer here end_of-Stmt = here
  row_place context names outer here (more_of-Stmt first rest) =
      place_in (stmt_resolved context names outer (stmt_view first))
      (stmt_place context names outer here first)
      (row_place context (names_after names (stmt_view first)) outer here rest)

abbrev pub block_place : Context → TypedNames → (outer : ℕ) → (here : Option Span) → List Stmt
    → Option Span
block_place context names outer here [] = here
block_place context names outer here (first ∷ rest) =
    place_in (stmt_resolved context names outer (stmt_view first))
    (stmt_place context names outer here first)
    (block_place context (names_after names (stmt_view first)) outer here rest)

abbrev pub for_place : Context → TypedNames → (here : Option Span) → (first : Stmt)
    → (condition : Option tree.Expr) → (step body : Stmt) → Option Span
for_place context names here first condition step body =
    loop_place context names here (stmt_view first)
    (stmt_place context names (length names) here first) condition (stmt_view step)
    (stmt_place context (names_after names (stmt_view first))
    (length (names_after names (stmt_view first))) here step)
    (stmt_place context (names_after names (stmt_view first))
    (length (names_after names (stmt_view first))) here body)

-- in rates, each of which has a place
abbrev pub rates_place : (constants : List (List ℕ × ℤ)) (fields : TypedNames)
    (input output : ItemType) (here : Option Span) → List RateTree → Option Span
rates_place constants fields input output here [] = here
rates_place constants fields input output here (first ∷ rest) =
    place_in (rate_resolved constants fields input output (rate_view first)) (Some first.place)
    (rates_place constants fields input output here rest)

-- in a body with its rates, of which the block has this place
abbrev pub work_place : (constants : List (List ℕ × ℤ)) (fields : TypedNames)
    (input output : ItemType) (here : Option Span) → List RateTree → (block : Option Span)
    → Option Span
work_place constants fields input output here rates block =
    place_in (rates_resolved constants fields input output (map rate_view rates))
    (rates_place constants fields input output here rates) block

-- in a helper function, of which the block has this place
abbrev pub helper_place : (fields : TypedNames) (known : List (List ℕ)) (here : Option Span)
    → (name : List ℕ) (parameters : List (List ℕ)) → (block : Option Span) → Option Span
helper_place fields known here name parameters block =
    if has_name known name then here
    else place_in (parameters_resolved fields (length fields) parameters) here block

-- in a member
abbrev pub member_place : (constants : List (List ℕ × ℤ)) (helpers : Signatures)
    (input output : ItemType) (fields : TypedNames) (known : List (List ℕ)) (here : Option Span)
    → Member → Option Span
member_place constants helpers input output fields known here (member.Fields declared) =
    Some declared.place
member_place constants helpers input output fields known here (member.Init' shape block) =
    row_place (start_context constants helpers) fields (length fields) here block
member_place constants helpers input output fields known here
    (member.Prework' rates shape block) =
    work_place constants fields input output here rates.items
    (row_place (body_context constants helpers input output) fields (length fields) here block)
member_place constants helpers input output fields known here (member.Work' rates shape block) =
    work_place constants fields input output here rates.items
    (row_place (body_context constants helpers input output) fields (length fields) here block)
member_place constants helpers input output fields known here
    (member.Helper' kind name parameters shape block) =
    helper_place fields known here name parameters.items
    (row_place (helper_context constants helpers kind) (with_parameters fields parameters.items)
    (length (with_parameters fields parameters.items)) here block)

-- in members, in order of the text
abbrev pub members_place : (constants : List (List ℕ × ℤ)) (helpers : Signatures)
    (input output : ItemType) (fields : TypedNames) (before known : List (List ℕ))
    (here : Option Span) → List Member → Option Span
members_place constants helpers input output fields before known here [] = here
members_place constants helpers input output fields before known here (first ∷ rest) =
    place_in (member_resolved constants helpers input output fields before known
    (member_view first))
    (member_place constants helpers input output fields known here first)
    (members_place constants helpers input output fields (fields_after before (member_view first))
    (known_after known (member_view first)) here rest)

-- in a filter, where the innermost place around it is this
abbrev pub filter_place : (constants : List (List ℕ × ℤ)) (input output : ItemType)
    (here : Option Span) → List Member → Option Span
filter_place constants input output here members =
    if has_parts (members_of members)
    then members_place constants (signatures_after [] (members_of members)) input output
    (names_after_fields [] (members_of members)) [] [] here members
    else here

-- memory can run out anywhere; any other refusal is at the place that is expected
abbrev pub IsPlaceOf : LowerError → (expected found : Option Span) → Type 0
IsPlaceOf (refused.UnknownName name) expected found = found ≡ expected
IsPlaceOf refused.TypeMismatch expected found = found ≡ expected
IsPlaceOf (refused.ConstFault cause) expected found = found ≡ expected
IsPlaceOf refused.BadArguments expected found = found ≡ expected
IsPlaceOf refused.NoMemory expected found = Unit {0}

-- a walk is back where it was before, or where it was refused
abbrev pub Stands : {X : Type 0} → Result X LowerError → (expected before after : Option Span)
    → Type 0
Stands (Ok done) expected before after = after ≡ before
Stands (Err refusal) expected before after = IsPlaceOf refusal expected after
