-- The rows, by what the walk computes.
use Rattle.std.proofs.Common.{◌≡◌, ℤ, Bool, true, false, ◌&&◌, List, [], ◌∷◌, Result, Ok, Err}
use Rattle.std.proofs.Common.{pos, IsOk, is_ok, not, refl, ap, subst}
use Rattle.std.specs.Int.{int_wrap}
use Rattle.strc_parse_tree.specs.Tree as tree
use Rattle.strc_work_meaning.specs.Filters.{Filter}
use Rattle.strc_work_rules.specs.declared.error.LowerError.{LowerError}
use Rattle.strc_work_meaning.specs.declared.types.ValueType.{ValueType}
use Rattle.strc_work_meaning.specs.Typing.{same_type}
use Rattle.strc_work_rules.specs.Resolution.{Context, Typed, expr_resolved, stmt_resolved}
use Rattle.strc_work_rules.specs.Resolution.{filter_resolved, number_resolved, rate_context}
use Rattle.strc_work_rules.specs.Resolution.{init_context}
use Rattle.strc_work_rules.proofs.ResolvingStatements.{Gives}
use Rattle.strc_work.specs.Expressions.{HasType}
use Rattle.strc_work.specs.Numbers.{HasNumber}
use Rattle.strc_work.specs.Examples.{example_names, example_constants, HaveTypes, HaveNoType}
use Rattle.strc_work.specs.Examples.{ExpressionRows, NumberRows, StatementRows, FilterRows}
use Rattle.strc_work.specs.Examples.{AreAllWellFormed, AreIllFormed}
use Rattle.strc_work.specs.Examples.{AreAllWellTyped, AreIllTyped}
use Rattle.strc_work.specs.Examples.{flowing, closed, typed, untyped, well_formed, ill_formed, x}
use Rattle.strc_work.specs.Examples.{well_typed, ill_typed, helped, unhelped, doubled, by_zero}
use Rattle.strc_work.specs.Examples.{lazy, item_readers}
use Rattle.strc_work.specs.Examples.{constant_reads, variable_reads, pushes, writes}
use Rattle.strc_work.proofs.Accepting.{same_type_true}
use Rattle.strc_work.proofs.TypesOfExpressions.{expr_gives, expr_accepts}
use Rattle.strc_work.proofs.Numbers.{walk_gives_number}
use Rattle.strc_work.proofs.Statements.{walk_accepts_stmt}
use Rattle.strc_work.proofs.Filters.{walk_accepts_filter}

-- both of two tests
first_true : (s t : Bool) → s && t ≡ true → s ≡ true
first_true true t e = refl
first_true false t e = absurd (cc)

second_true : (s t : Bool) → s && t ≡ true → t ≡ true
second_true true t e = e
second_true false t e = absurd (cc)

-- whether the walk gives this type
abbrev gives_type : ValueType → Result Typed LowerError → Bool
gives_type kind (Ok made) = same_type made.kind kind
gives_type kind (Err refusal) = false

abbrev give_types : Context → List (tree.Expr × ValueType) → Bool
give_types context [] = true
give_types context (row ∷ rows) =
    gives_type row.1 (expr_resolved context example_names row.0) && give_types context rows

have_types : (context : Context) (rows : List (tree.Expr × ValueType))
    → give_types context rows ≡ true → HaveTypes context rows
have_types context [] e = tt
have_types context (row ∷ rows) e =
    let walked = gives_type row.1 (expr_resolved context example_names row.0) in (
      at (expr_resolved context example_names row.0) (expr_gives context example_names row.0)
          (first_true walked (give_types context rows) e),
      have_types context rows (second_true walked (give_types context rows) e),
    )
  where
    at : (r : Result Typed LowerError)
        → Gives (λ (t : Typed). HasType context example_names row.0 t.kind) r
        → gives_type row.1 r ≡ true → HasType context example_names row.0 row.1
    at (Ok made) h same = subst (HasType context example_names row.0)
        (same_type_true made.kind row.1 same) h
    at (Err refusal) h same = absurd (cc)

-- whether the walk refuses each
abbrev refuse_all : Context → List tree.Expr → Bool
refuse_all context [] = true
refuse_all context (value ∷ values) =
    not (is_ok (expr_resolved context example_names value)) && refuse_all context values

refused_not_ok : {A : Type 0} (r : Result A LowerError) → not (is_ok r) ≡ true → IsOk r → ⊥
refused_not_ok (Ok made) e h = cc
refused_not_ok (Err refusal) e h = cc

have_no_type : (context : Context) (values : List tree.Expr) → refuse_all context values ≡ true
    → HaveNoType context values
have_no_type context [] e = tt
have_no_type context (value ∷ values) e =
    let walked = not (is_ok (expr_resolved context example_names value)) in (
      λ kind h. refused_not_ok (expr_resolved context example_names value)
          (first_true walked (refuse_all context values) e)
          (ap is_ok (expr_accepts context example_names value kind h).1),
      have_no_type context values (second_true walked (refuse_all context values) e),
    )

pub expression_rows : ExpressionRows
expression_rows = record {
  typed_rows = have_types flowing typed refl;
  untyped_rows = have_no_type flowing untyped refl;
  no_items = have_no_type closed item_readers refl;
  constants_alone = have_types (rate_context example_constants) constant_reads refl;
  no_variables = have_no_type (rate_context example_constants) variable_reads refl;
}

pub number_rows : NumberRows
unfolding int_wrap
number_rows = record {
  is_doubled = (walk_gives_number example_constants example_names doubled (pos 6)).0 refl;
  no_fault = (walk_gives_number example_constants example_names lazy (pos 3)).0 refl;
  faults = λ value h. no_number by_zero value refl h;
  no_variable = λ value h. no_number (tree.Read x) value refl h;
  no_truth = λ value h. no_number (tree.Truth true) value refl h;
}
  where
    no_number : (e : tree.Expr) (value : ℤ)
        → not (is_ok (number_resolved example_constants example_names e)) ≡ true
        → HasNumber example_constants example_names e value → ⊥
    no_number e value refuses h =
        refused_not_ok (number_resolved example_constants example_names e) refuses
        (ap is_ok ((walk_gives_number example_constants example_names e value).1 h))

-- whether the walk accepts each statement, or refuses each
abbrev accept_stmts : Context → List tree.Stmt → Bool
accept_stmts context [] = true
accept_stmts context (first ∷ rest) =
    is_ok (stmt_resolved context example_names 0 first) && accept_stmts context rest

abbrev refuse_stmts : Context → List tree.Stmt → Bool
refuse_stmts context [] = true
refuse_stmts context (first ∷ rest) =
    not (is_ok (stmt_resolved context example_names 0 first)) && refuse_stmts context rest

are_well_formed : (context : Context) (rows : List tree.Stmt) → accept_stmts context rows ≡ true
    → AreAllWellFormed context rows
are_well_formed context [] e = tt
are_well_formed context (first ∷ rest) e =
    let walked = is_ok (stmt_resolved context example_names 0 first) in (
      (walk_accepts_stmt context example_names 0 first).0
          (first_true walked (accept_stmts context rest) e),
      are_well_formed context rest (second_true walked (accept_stmts context rest) e),
    )

are_ill_formed : (context : Context) (rows : List tree.Stmt) → refuse_stmts context rows ≡ true
    → AreIllFormed context rows
are_ill_formed context [] e = tt
are_ill_formed context (first ∷ rest) e =
    let walked = not (is_ok (stmt_resolved context example_names 0 first)) in (
      λ h. refused_not_ok (stmt_resolved context example_names 0 first)
          (first_true walked (refuse_stmts context rest) e)
          ((walk_accepts_stmt context example_names 0 first).1 h),
      are_ill_formed context rest (second_true walked (refuse_stmts context rest) e),
    )

pub statement_rows : StatementRows
statement_rows = record {
  well_formed_rows = are_well_formed flowing well_formed refl;
  ill_formed_rows = are_ill_formed flowing ill_formed refl;
  no_pushes = are_ill_formed closed pushes refl;
  no_words = are_ill_formed (init_context example_constants) writes refl;
}

-- whether the walk accepts each filter, or refuses each
abbrev accept_filters : List Filter → Bool
accept_filters [] = true
accept_filters (first ∷ rest) =
    is_ok (filter_resolved example_constants first) && accept_filters rest

abbrev refuse_filters : List Filter → Bool
refuse_filters [] = true
refuse_filters (first ∷ rest) =
    not (is_ok (filter_resolved example_constants first)) && refuse_filters rest

are_well_typed : (rows : List Filter) → accept_filters rows ≡ true → AreAllWellTyped rows
are_well_typed [] e = tt
are_well_typed (first ∷ rest) e =
    let walked = is_ok (filter_resolved example_constants first) in (
      (walk_accepts_filter example_constants first).0
          (first_true walked (accept_filters rest) e),
      are_well_typed rest (second_true walked (accept_filters rest) e),
    )

are_ill_typed : (rows : List Filter) → refuse_filters rows ≡ true → AreIllTyped rows
are_ill_typed [] e = tt
are_ill_typed (first ∷ rest) e =
    let walked = not (is_ok (filter_resolved example_constants first)) in (
      λ h. refused_not_ok (filter_resolved example_constants first)
          (first_true walked (refuse_filters rest) e)
          ((walk_accepts_filter example_constants first).1 h),
      are_ill_typed rest (second_true walked (refuse_filters rest) e),
    )

pub filter_rows : FilterRows
filter_rows = record {
  well_typed_rows = are_well_typed well_typed refl;
  ill_typed_rows = are_ill_typed ill_typed refl;
  helped_rows = are_well_typed helped refl;
  unhelped_rows = are_ill_typed unhelped refl;
}
