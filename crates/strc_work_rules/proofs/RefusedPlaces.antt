-- Where a walk stands that was refused: of two parts in turn, and in a block, whichever way it is
-- kept.
use Rattle.std.proofs.Common.{◌≡◌, ℕ, ◌+◌, ◌<◌, List, ◌∷◌, length, drop, get_or, Option}
use Rattle.std.proofs.Common.{Result, Ok, Err, Vec, Global, ◌⊎◌, inl, inr, refl, sym, ap, ◌∙◌}
use Rattle.std.proofs.Common.{subst}
use mathlib.Core.Former.{Count}
use Rattle.strc_lex_names.specs.declared.place.Span.{Span}
use Rattle.strc_parse_tree.specs.View.{stmt_view}
use Rattle.strc_parse_tree.specs.declared.tree.Stmt.{Stmt, Block, Block', Row_of-Stmt, end_of-Stmt}
use Rattle.strc_parse_tree.specs.declared.tree.Stmt.{more_of-Stmt, items-the_row-Stmt}
use Rattle.strc_parse_tree.specs.declared.tree.Stmt.{items_hidden-the_row-Stmt-1}
use Rattle.strc_work_meaning.specs.Typing.{TypedNames, names_after}
use Rattle.strc_work_rules.specs.Resolution.{Context, stmt_resolved}
use Rattle.strc_work_rules.specs.Verdicts.{IsRefusal}
use Rattle.strc_work_rules.specs.RefusedPlaces.{IsPlaceOf, Stands, place_in, stmt_place, row_place}
use Rattle.strc_work_rules.specs.RefusedPlaces.{block_place}
use Rattle.strc_work_rules.specs.declared.error.LowerError.{LowerError}
use Rattle.strc_work_rules.specs.declared.error.LowerErrorKind.TheVariants as refused
use Rattle.strc_work_rules.proofs.Resolved.{names_left}

-- the first part is refused
pub refused_first : {A : Type 0} (first : Result A LowerError) (e : LowerError)
    (own next found : Option Span) → IsRefusal first e → IsPlaceOf e own found
    → IsPlaceOf e (place_in first own next) found
refused_first first (refused.UnknownName name) own next found h at =
    at ∙ sym (ap (λ r. place_in r own next) h)
refused_first first refused.TypeMismatch own next found h at =
    at ∙ sym (ap (λ r. place_in r own next) h)
refused_first first (refused.ConstFault cause) own next found h at =
    at ∙ sym (ap (λ r. place_in r own next) h)
refused_first first refused.BadArguments own next found h at =
    at ∙ sym (ap (λ r. place_in r own next) h)
refused_first first refused.NoMemory own next found h at = tt

-- the first part isn't refused
pub refused_next : {A : Type 0} (first : Result A LowerError) (value : A) (e : LowerError)
    (own next found : Option Span) → first ≡ Ok value → IsPlaceOf e next found
    → IsPlaceOf e (place_in first own next) found
refused_next first value e own next found h at =
    subst (λ r. IsPlaceOf e (place_in r own next) found) (sym h) at

-- a walk that stands where it stood
pub refused_here : (e : LowerError) (here found : Option Span) → found ≡ here
    → IsPlaceOf e here found
refused_here (refused.UnknownName name) here found at = at
refused_here refused.TypeMismatch here found at = at
refused_here (refused.ConstFault cause) here found at = at
refused_here refused.BadArguments here found at = at
refused_here refused.NoMemory here found at = tt

-- a block has the places of its list
row_items : (context : Context) (names : TypedNames) (outer : ℕ) (here : Option Span) (n : _)
    (kept : Row_of-Stmt n) → row_place context names outer here kept
    ≡ block_place context names outer here (items-the_row-Stmt n kept)
row_items context names outer here n end_of-Stmt = refl
row_items context names outer here n (more_of-Stmt first rest) =
    ap (place_in (stmt_resolved context names outer (stmt_view first))
    (stmt_place context names outer here first))
    (row_items context (names_after names (stmt_view first)) outer here _ rest)

abbrev kept_row : Stmt → (n : Count) × Row_of-Stmt n
kept_row (Block' _ kept) = (_, kept)
kept_row _ = (_, end_of-Stmt)

pub row_of_block : (context : Context) (names : TypedNames) (outer : ℕ) (here : Option Span)
    (body : Vec Stmt Global) → row_place context names outer here (kept_row (Block body)).1
    ≡ block_place context names outer here body.items
row_of_block context names outer here body =
    let kept = kept_row (Block body) in row_items context names outer here kept.0 kept.1
    ∙ ap (block_place context names outer here) (items_hidden-the_row-Stmt-1 body)

pub stmt_place-Block : (context : Context) (names : TypedNames) (outer : ℕ) (here : Option Span)
    (body : Vec Stmt Global) → stmt_place context names outer here (Block body)
    ≡ block_place context names (length names) here body.items
stmt_place-Block context names outer here body =
    row_of_block context names (length names) here body

-- an equal place
pub place_same : (e : LowerError) (first second found : Option Span) → first ≡ second
    → IsPlaceOf e first found → IsPlaceOf e second found
place_same e first second found same at = subst (λ p. IsPlaceOf e p found) same at

-- the place of what was to come next
pub next_place : {X : Type 0} (next : Result X LowerError) (e : LowerError)
    (expected before after : Option Span) → Stands next expected before after
    → (e ≡ refused.NoMemory) ⊎ (next ≡ Err e) → IsPlaceOf e expected after
next_place next e expected before after stands h = elim h [
  | inl full ↦ subst (λ r. IsPlaceOf r expected after) (sym full) tt
  | inr is ↦ subst (λ n. Stands n expected before after) is stands
]

-- a statement is done: the place is among those that are left
pub block_place_step : (context : Context) (names names' : TypedNames) (outer : ℕ)
    (here : Option Span) (items : List Stmt) (i : ℕ) (x y : Stmt) → i < length items
    → x ≡ get_or items i x → stmt_resolved context names outer (stmt_view x) ≡ Ok (stmt_view y)
    → names' ≡ names_after names (stmt_view x)
    → block_place context names' outer here (drop (i + 1) items)
    ≡ block_place context names outer here (drop i items)
block_place_step context names names' outer here items i x y lt at done scope =
    let rest = drop (i + 1) items in
    ap (λ n. block_place context n outer here rest) scope
    ∙ ap (λ r. place_in r (stmt_place context names outer here x)
    (block_place context (names_after names (stmt_view x)) outer here rest)) (sym done)
    ∙ ap (block_place context names outer here) (sym (names_left items i x lt at))

-- a statement is refused
pub block_place_refused : (context : Context) (names : TypedNames) (outer : ℕ)
    (here : Option Span) (items : List Stmt) (i : ℕ) (x : Stmt) (e : LowerError)
    (found : Option Span) → i < length items → x ≡ get_or items i x
    → IsRefusal (stmt_resolved context names outer (stmt_view x)) e
    → IsPlaceOf e (stmt_place context names outer here x) found
    → IsPlaceOf e (block_place context names outer here (drop i items)) found
block_place_refused context names outer here items i x e found lt at refusal stands =
    let rest = drop (i + 1) items in
    place_same e (block_place context names outer here (x ∷ rest))
    (block_place context names outer here (drop i items)) found
    (ap (block_place context names outer here) (sym (names_left items i x lt at)))
    (refused_first (stmt_resolved context names outer (stmt_view x)) e
    (stmt_place context names outer here x)
    (block_place context (names_after names (stmt_view x)) outer here rest) found refusal stands)
