-- Where a walk over rates and members stands that was refused.
use Rattle.std.proofs.Common.{◌≡◌, ℕ, ◌+◌, ◌<◌, List, length, drop, get_or, Option, Some, Ok}
use Rattle.std.proofs.Common.{Vec, Global, sym, ap, ◌∙◌}
use Rattle.std.specs.Prelude.{ℤ}
use Rattle.strc_lex_names.specs.declared.name.Name.{Name}
use Rattle.strc_lex_names.specs.declared.place.Span.{Span}
use Rattle.strc_parse_tree.specs.Tree as tree
use Rattle.strc_parse_tree.specs.View.{member_view, rate_view}
use Rattle.strc_parse_tree.specs.declared.tree.HelperType.{HelperType}
use Rattle.strc_parse_tree.specs.declared.tree.ItemType.{ItemType}
use Rattle.strc_parse_tree.specs.declared.tree.Member.{Member, Init, Prework, Work, Helper}
use Rattle.strc_parse_tree.specs.declared.tree.RateTree.{RateTree}
use Rattle.strc_parse_tree.specs.declared.tree.Stmt.{Stmt}
use Rattle.strc_work_meaning.specs.Typing.{TypedNames}
use Rattle.strc_work_rules.specs.Resolution.{Context, member_resolved, rate_resolved, fields_after}
use Rattle.strc_work_rules.specs.Resolution.{known_after, start_context, body_context}
use Rattle.strc_work_rules.specs.Resolution.{helper_context}
use Rattle.strc_work_rules.specs.Signatures.{Signatures, with_parameters}
use Rattle.strc_work_rules.specs.Verdicts.{IsRefusal}
use Rattle.strc_work_rules.specs.RefusedPlaces.{IsPlaceOf, place_in, block_place, rates_place}
use Rattle.strc_work_rules.specs.RefusedPlaces.{work_place, helper_place, member_place}
use Rattle.strc_work_rules.specs.RefusedPlaces.{members_place}
use Rattle.strc_work_rules.specs.declared.error.LowerError.{LowerError}
use Rattle.strc_work_rules.proofs.Resolved.{names_left}
use Rattle.strc_work_rules.proofs.RefusedPlaces.{refused_first, place_same, row_of_block}

-- a rate is done, or refused
pub rates_place_step : (constants : List (List ℕ × ℤ)) (fields : TypedNames)
    (input output : ItemType) (here : Option Span) (rates : List RateTree) (i : ℕ)
    (x : RateTree) (y : tree.Rate) → i < length rates → x ≡ get_or rates i x
    → rate_resolved constants fields input output (rate_view x) ≡ Ok y
    → rates_place constants fields input output here (drop (i + 1) rates)
    ≡ rates_place constants fields input output here (drop i rates)
rates_place_step constants fields input output here rates i x y lt at done =
    ap (λ r. place_in r (Some x.place)
    (rates_place constants fields input output here (drop (i + 1) rates))) (sym done)
    ∙ ap (rates_place constants fields input output here) (sym (names_left rates i x lt at))

pub rates_place_refused : (constants : List (List ℕ × ℤ)) (fields : TypedNames)
    (input output : ItemType) (here : Option Span) (rates : List RateTree) (i : ℕ)
    (x : RateTree) (e : LowerError) (found : Option Span) → i < length rates
    → x ≡ get_or rates i x
    → IsRefusal (rate_resolved constants fields input output (rate_view x)) e
    → IsPlaceOf e (Some x.place) found
    → IsPlaceOf e (rates_place constants fields input output here (drop i rates)) found
rates_place_refused constants fields input output here rates i x e found lt at refusal stands =
    place_same e _ _ found
    (ap (rates_place constants fields input output here) (sym (names_left rates i x lt at)))
    (refused_first (rate_resolved constants fields input output (rate_view x)) e (Some x.place)
    (rates_place constants fields input output here (drop (i + 1) rates)) found refusal stands)

-- a member is done, or refused
pub members_place_step : (constants : List (List ℕ × ℤ)) (helpers : Signatures)
    (input output : ItemType) (fields : TypedNames) (before known : List (List ℕ))
    (here : Option Span) (members : List Member) (i : ℕ) (x : Member) (y : tree.Member)
    → i < length members → x ≡ get_or members i x
    → member_resolved constants helpers input output fields before known (member_view x) ≡ Ok y
    → members_place constants helpers input output fields (fields_after before (member_view x))
    (known_after known (member_view x)) here (drop (i + 1) members)
    ≡ members_place constants helpers input output fields before known here (drop i members)
members_place_step constants helpers input output fields before known here members i x y lt at
    done =
    ap (λ r. place_in r (member_place constants helpers input output fields known here x)
    (members_place constants helpers input output fields (fields_after before (member_view x))
    (known_after known (member_view x)) here (drop (i + 1) members))) (sym done)
    ∙ ap (members_place constants helpers input output fields before known here)
    (sym (names_left members i x lt at))

pub members_place_refused : (constants : List (List ℕ × ℤ)) (helpers : Signatures)
    (input output : ItemType) (fields : TypedNames) (before known : List (List ℕ))
    (here : Option Span) (members : List Member) (i : ℕ) (x : Member) (e : LowerError)
    (found : Option Span) → i < length members → x ≡ get_or members i x
    → IsRefusal (member_resolved constants helpers input output fields before known
    (member_view x)) e
    → IsPlaceOf e (member_place constants helpers input output fields known here x) found
    → IsPlaceOf e (members_place constants helpers input output fields before known here
    (drop i members)) found
members_place_refused constants helpers input output fields before known here members i x e found
    lt at refusal stands =
    place_same e _ _ found
    (ap (members_place constants helpers input output fields before known here)
    (sym (names_left members i x lt at)))
    (refused_first (member_resolved constants helpers input output fields before known
    (member_view x)) e (member_place constants helpers input output fields known here x)
    (members_place constants helpers input output fields (fields_after before (member_view x))
    (known_after known (member_view x)) here (drop (i + 1) members)) found refusal stands)

-- the places of members by the lists of their statements
pub init_place : (constants : List (List ℕ × ℤ)) (helpers : Signatures) (input output : ItemType)
    (fields : TypedNames) (known : List (List ℕ)) (here : Option Span) (context : Context)
    (m : Member) (block : Vec Stmt Global) (items : List Stmt)
    → context ≡ start_context constants helpers → items ≡ block.items → m ≡ Init block
    → block_place context fields (length fields) here items
    ≡ member_place constants helpers input output fields known here m
init_place constants helpers input output fields known here context m block items at same is =
    ap (λ s. block_place s fields (length fields) here items) at
    ∙ ap (block_place (start_context constants helpers) fields (length fields) here) same
    ∙ sym (row_of_block (start_context constants helpers) fields (length fields) here block)
    ∙ ap (member_place constants helpers input output fields known here) (sym is)

-- a body with its rates
abbrev pub work_at : (constants : List (List ℕ × ℤ)) (helpers : Signatures)
    (input output : ItemType) (fields : TypedNames) (here : Option Span) → List RateTree
    → List Stmt → Option Span
work_at constants helpers input output fields here rates items =
    work_place constants fields input output here rates
    (block_place (body_context constants helpers input output) fields (length fields) here items)

work_parts : (constants : List (List ℕ × ℤ)) (helpers : Signatures) (input output : ItemType)
    (fields : TypedNames) (here : Option Span) (rates : Vec RateTree Global)
    (block : Vec Stmt Global) (written : List RateTree) (items : List Stmt)
    → written ≡ rates.items → items ≡ block.items
    → work_at constants helpers input output fields here written items
    ≡ work_at constants helpers input output fields here rates.items block.items
work_parts constants helpers input output fields here rates block written items same same' =
    ap (λ r. work_at constants helpers input output fields here r items) same
    ∙ ap (work_at constants helpers input output fields here rates.items) same'

pub prework_place : (constants : List (List ℕ × ℤ)) (helpers : Signatures)
    (input output : ItemType) (fields : TypedNames) (known : List (List ℕ)) (here : Option Span)
    (m : Member) (rates : Vec RateTree Global) (block : Vec Stmt Global)
    (written : List RateTree) (items : List Stmt) → written ≡ rates.items → items ≡ block.items
    → m ≡ Prework rates block → work_at constants helpers input output fields here written items
    ≡ member_place constants helpers input output fields known here m
prework_place constants helpers input output fields known here m rates block written items same
    same' is =
    work_parts constants helpers input output fields here rates block written items same same'
    ∙ ap (work_place constants fields input output here rates.items)
    (sym (row_of_block (body_context constants helpers input output) fields (length fields) here
    block))
    ∙ ap (member_place constants helpers input output fields known here) (sym is)

pub main_work_place : (constants : List (List ℕ × ℤ)) (helpers : Signatures)
    (input output : ItemType) (fields : TypedNames) (known : List (List ℕ)) (here : Option Span)
    (m : Member) (rates : Vec RateTree Global) (block : Vec Stmt Global)
    (written : List RateTree) (items : List Stmt) → written ≡ rates.items → items ≡ block.items
    → m ≡ Work rates block → work_at constants helpers input output fields here written items
    ≡ member_place constants helpers input output fields known here m
main_work_place constants helpers input output fields known here m rates block written items same
    same' is =
    work_parts constants helpers input output fields here rates block written items same same'
    ∙ ap (work_place constants fields input output here rates.items)
    (sym (row_of_block (body_context constants helpers input output) fields (length fields) here
    block))
    ∙ ap (member_place constants helpers input output fields known here) (sym is)

-- a helper function
abbrev pub helper_at : (constants : List (List ℕ × ℤ)) (helpers : Signatures)
    (fields : TypedNames) (known : List (List ℕ)) (here : Option Span) → HelperType → List ℕ
    → (parameters : List (List ℕ)) → List Stmt → Option Span
helper_at constants helpers fields known here kind name parameters items =
    helper_place fields known here name parameters
    (block_place (helper_context constants helpers kind) (with_parameters fields parameters)
    (length (with_parameters fields parameters)) here items)

pub helper_member_place : (constants : List (List ℕ × ℤ)) (helpers : Signatures)
    (input output : ItemType) (fields : TypedNames) (known : List (List ℕ)) (here : Option Span)
    (m : Member) (kind : HelperType) (name : Name) (parameters : Vec Name Global)
    (block : Vec Stmt Global) (written : List (List ℕ)) (items : List Stmt)
    → written ≡ parameters.items → items ≡ block.items → m ≡ Helper kind name parameters block
    → helper_at constants helpers fields known here kind name written items
    ≡ member_place constants helpers input output fields known here m
helper_member_place constants helpers input output fields known here m kind name parameters block
    written items same same' is =
    ap (λ l. helper_at constants helpers fields known here kind name l items) same
    ∙ ap (helper_at constants helpers fields known here kind name parameters.items) same'
    ∙ ap (helper_place fields known here name parameters.items)
    (sym (row_of_block (helper_context constants helpers kind)
    (with_parameters fields parameters.items)
    (length (with_parameters fields parameters.items)) here block))
    ∙ ap (member_place constants helpers input output fields known here) (sym is)
