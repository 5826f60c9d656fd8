-- The rates that are checked of a filter are those of its firings.
use Rattle.std.proofs.Common.{◌≡◌, refl, subst, ℕ, ◌≤◌, ℤ, pos, negsuc, Bool, true, false, not}
use Rattle.std.proofs.Common.{◌||◌, List, [], ◌∷◌, length, reverse, Option, Some, None, Result, Ok}
use Rattle.std.proofs.Common.{Err, ◌+◌, take, drop, arith}
use Rattle.std.specs.Prelude.{nat_eq, is_some, unwrap_or, if◌then◌else◌}
use Rattle.std.specs.Result.{IfOk}
use Rattle.std.specs.Int.RustNames.{int_lt}
use Rattle.std.proofs.lemmas.Bool.{eqb-true}
use Rattle.std.proofs.lemmas.Int.{ints}
use Rattle.std.proofs.lemmas.Result.{IfOk-weaker}
use Rattle.strc_parse_tree.specs.Tree as tree
use Rattle.strc_work_meaning.specs.declared.body.Body.{Body}
use Rattle.strc_work_meaning.specs.declared.body.Body.TheVariants as body
use Rattle.strc_work_meaning.specs.Scoping.{Scope}
use Rattle.strc_work_meaning.specs.Filters.{Filter, sized_fields, work_block, work_rates}
use Rattle.strc_work_meaning.specs.Filters.{prework_block, prework_rates, body_block, body_rates}
use Rattle.strc_work_meaning.specs.Filters.{push_rate, pop_rate, item_count, window_size}
use Rattle.strc_work_meaning.specs.Closed.{IsClosedFilter}
use Rattle.strc_work_meaning.specs.Firing.{Setting, Store, Variables, stmts_done, no_traffic}
use Rattle.strc_work_meaning.specs.Firing.{setting_of, store_at, bound_onto}
use Rattle.strc_rate.proofs.Unreturned.{ArePlain, body_plain}
use Rattle.strc_rate.specs.declared.rates.RateError.{RateError}
use Rattle.strc_rate.specs.declared.rates.RateError.TheVariants.{RateLimit, RateMismatch}
use Rattle.strc_rate.specs.declared.rates.RateError.TheVariants.{PeekOutside}
use Rattle.strc_rate.specs.declared.counts.Counts.{Counts}
use Rattle.strc_rate.specs.declared.sight.PeekBounds.{PeekBounds}
use Rattle.strc_rate.specs.Counts.{stmts_counts}
use Rattle.strc_rate.specs.Peeks.{body_sights}
use Rattle.strc_lex_names.specs.Results.{result_and_then}
use Rattle.strc_rate.specs.Rates.{BodyRates, FilterRates, within_limit, are_within_limit}
use Rattle.strc_rate.specs.Rates.{same_rate, some_outside, accepted_rates}
use Rattle.strc_rate.specs.Rates.{with_closed_peeks, counted, body_checked, work_lacks}
use Rattle.strc_rate.specs.Rates.{work_checked, some_prework, prework_checked, then_work, checked}
use Rattle.strc_rate.specs.Kept.{CheckedRatesAreKept}
use Rattle.strc_rate.specs.Safe.{rates_of}
use Rattle.strc_rate.proofs.Results.{and_first, and_second}
use Rattle.strc_rate.proofs.Unwritten.{scope_length}
use Rattle.strc_rate.proofs.CountedMoves.{Moves, Counted}
use Rattle.strc_rate.proofs.StatementCounts.{stmts_counted}

-- a declared rate is at most 65,536
pub limited : (rate : ℤ) → within_limit rate ≡ true → item_count rate ≤ 65536
limited (pos n) e =
    let h : not (int_lt (pos 65536) (pos n)) ≡ true =
    and_second (not (int_lt (pos n) (pos 0))) _ e in
    grind (arith, ints)
limited (negsuc n) e = omega arith

same_count : (declared given : ℕ) (next : Result BodyRates RateError) (R : BodyRates → Type 0)
    → (declared ≡ given → IfOk next R)
    → IfOk (result_and_then (same_rate declared given) (λ same. next)) R
same_count declared given next R go = by_test (nat_eq declared given) refl
  where
    by_test : (t : Bool) → nat_eq declared given ≡ t
        → IfOk (result_and_then {A = Unit {0}}
        (if t then Ok tt else Err (RateMismatch declared given)) (λ same. next)) R
    by_test true e = go (eqb-true declared given e)
    by_test false e = tt

peeks_by : (outside : Bool) (rates : BodyRates) (R : BodyRates → Type 0) → R rates
    → IfOk (if outside then Err PeekOutside else Ok rates) R
peeks_by true rates R h = tt
peeks_by false rates R h = h

-- what is known where a body's rates are accepted
pub accepted_by : (limits lacks : Bool) (rates : List tree.Rate) (counts : Option Counts)
    (sights : List PeekBounds) (R : BodyRates → Type 0)
    → ((c : Counts) → limits ≡ true → counts ≡ Some c → item_count (push_rate rates) ≡ c.pushes
    → item_count (pop_rate rates) ≡ c.pops → R (accepted_rates rates sights))
    → IfOk (if not limits || lacks then Err RateLimit else counted rates counts sights) R
accepted_by false lacks rates counts sights R go = tt
accepted_by true true rates counts sights R go = tt
accepted_by true false rates None sights R go = tt
accepted_by true false rates (Some c) sights R go =
    same_count (item_count (push_rate rates)) c.pushes
    (result_and_then (same_rate (item_count (pop_rate rates)) c.pops)
    (λ same. with_closed_peeks rates sights)) R
    (λ pushes. same_count (item_count (pop_rate rates)) c.pops (with_closed_peeks rates sights) R
    (λ pops. peeks_by (some_outside sights) (accepted_rates rates sights) R
    (go c refl refl pushes pops)))

-- what follows of each body of such statements whose rates are accepted
abbrev pub OfBodies : (C : tree.Stmts → Type 0)
    → (R : List tree.Rate → tree.Stmts → BodyRates → Type 0) → Type 0
OfBodies C R =
    (lacks : Bool) (rates : List tree.Rate) (block : tree.Stmts) → C block
    → IfOk (body_checked lacks rates block) (R rates block)

bound_size : (variables : Variables) (fields : Scope) (values : List ℤ)
    → length (bound_onto variables fields values) ≡ length variables + length fields
bound_size variables [] values = omega arith
bound_size variables (field ∷ fields) values =
    let more = bound_size (record { 0 = field.0; 1 = take field.1 values } ∷ variables) fields
    (drop field.1 values) in
    omega (arith, more)

-- the store of a firing has the filter's fields
pub fields_there : (filter : Filter) (values : List ℤ)
    → length (sized_fields filter.members) ≤ length (store_at filter values).variables
fields_there filter values =
    omega (arith, bound_size [] (sized_fields filter.members) values)

-- each run of a block from no traffic keeps the declared rates
abbrev RunsKeep : List tree.Rate → tree.Stmts → BodyRates → Type 0
RunsKeep rates block accepted =
    (setting : Setting) (store : Store) → setting.fields ≤ length store.variables
    → store.traffic ≡ no_traffic
    → IfOk (stmts_done setting block store) (λ after.
    (after.traffic.popped ≡ item_count (pop_rate rates))
    × (length after.traffic.pushes ≡ item_count (push_rate rates)))

body_kept : (names : Scope) → OfBodies (ArePlain names) RunsKeep
body_kept names lacks rates block closed =
    accepted_by (are_within_limit rates) lacks rates (stmts_counts [] block)
    (body_sights (window_size rates) block) (RunsKeep rates block)
    (λ c limits counts pushes pops setting store room none.
    let push_limit = limited (push_rate rates)
    (and_first (within_limit (push_rate rates)) _ limits) in
    let pop_limit = limited (pop_rate rates)
    (and_first (within_limit (pop_rate rates)) _
    (and_second (within_limit (push_rate rates)) _ limits)) in
    IfOk-weaker (stmts_done setting block store) (λ after. Moves no_traffic after.traffic c) _
    (λ after h.
    let popped = h.popped in
    let pushed = h.pushed in
    let saturated_pops = h.saturated_pops in
    let saturated_pushes = h.saturated_pushes in
    (omega arith, omega arith))
    (subst (λ traffic. IfOk (stmts_done setting block store)
    (λ after. Moves traffic after.traffic c)) none
    (subst (λ x. IfOk (stmts_done setting block store)
    (λ after. Counted x store.traffic after.traffic)) counts
    (stmts_counted setting block [] names store closed
    (omega (arith, room, scope_length store.variables))))))

-- the rates and the block of a prework, or none
rates_with_block : (members : List tree.Member)
    → is_some (prework_rates members) ≡ is_some (prework_block members)
rates_with_block [] = refl
rates_with_block (tree.Fields kind variables ∷ rest) = rates_with_block rest
rates_with_block (tree.Init block ∷ rest) = rates_with_block rest
rates_with_block (tree.Prework rates block ∷ rest) = refl
rates_with_block (tree.Work rates block ∷ rest) = rates_with_block rest
rates_with_block (tree.Helper kind name parameters block ∷ rest) = rates_with_block rest

some_kept : (r : Result BodyRates RateError) (other : BodyRates) (R : BodyRates → Type 0)
    → IfOk r R → IfOk (some_prework r) (λ rates. R (unwrap_or rates other))
some_kept (Ok rates) other R h = h
some_kept (Err broken) other R h = tt

both_kept : (prework : Result (Option BodyRates) RateError) (work : Result BodyRates RateError)
    (R : Option BodyRates → BodyRates → Type 0) (S : BodyRates → Type 0) → IfOk work S
    → ((rates : BodyRates) → S rates → IfOk prework (λ first. R first rates))
    → IfOk (then_work prework work) (λ rates. R rates.prework rates.work × S rates.work)
both_kept (Ok prework) (Ok work) R S h k = (k work h, h)
both_kept (Ok prework) (Err broken) R S h k = tt
both_kept (Err broken) work R S h k = tt

prework_kept : (C : tree.Stmts → Type 0) (R : List tree.Rate → tree.Stmts → BodyRates → Type 0)
    → OfBodies C R → (rates : Option (List tree.Rate)) (block : Option tree.Stmts)
    (others : List tree.Rate) (other : tree.Stmts) (work : BodyRates)
    → is_some rates ≡ is_some block → C (unwrap_or block other) → R others other work
    → IfOk (prework_checked rates block) (λ accepted. R (unwrap_or rates others)
    (unwrap_or block other) (unwrap_or accepted work))
prework_kept C R each (Some rates) (Some block) others other work same fits h =
    some_kept (body_checked false rates block) work (R rates block) (each false rates block fits)
prework_kept C R each (Some rates) None others other work same fits h = absurd (cc)
prework_kept C R each None (Some block) others other work same fits h = absurd (cc)
prework_kept C R each None None others other work same fits h = h

-- and so of each body of a filter whose rates are accepted
pub of_filters : (C : tree.Stmts → Type 0) (R : List tree.Rate → tree.Stmts → BodyRates → Type 0)
    → OfBodies C R → (filter : Filter) → ((body : Body) → C (body_block body filter.members))
    → IfOk (checked filter) (λ rates. (body : Body) → R (body_rates body filter.members)
    (body_block body filter.members) (rates_of rates body))
of_filters C R each filter fits =
    let members = filter.members in
    IfOk-weaker (checked filter) (λ rates. R (body_rates body.Prework members)
    (body_block body.Prework members) (unwrap_or rates.prework rates.work)
    × R (work_rates members) (work_block members) rates.work) _
    (λ rates kept. by_body rates kept)
    (both_kept (prework_checked (prework_rates members) (prework_block members))
    (work_checked filter)
    (λ first work. R (body_rates body.Prework members) (body_block body.Prework members)
    (unwrap_or first work)) (R (work_rates members) (work_block members))
    (each (work_lacks filter) (work_rates members) (work_block members) (fits body.Work))
    (λ work kept. prework_kept C R each (prework_rates members) (prework_block members)
    (work_rates members) (work_block members) work (rates_with_block members)
    (fits body.Prework) kept))
  where
    by_body : (rates : FilterRates)
        → R (body_rates body.Prework filter.members) (body_block body.Prework filter.members)
        (unwrap_or rates.prework rates.work)
        × R (work_rates filter.members) (work_block filter.members) rates.work → (body : Body)
        → R (body_rates body filter.members) (body_block body filter.members) (rates_of rates body)
    by_body rates kept body.Prework = kept.0
    by_body rates kept body.Work = kept.1

-- the bodies of a filter of known names name nothing else, and don't return
pub bodies_plain : (filter : Filter) → IsClosedFilter filter → (body : Body)
    → ArePlain (reverse (sized_fields filter.members)) (body_block body filter.members)
bodies_plain filter closed body =
    body_plain body (reverse (sized_fields filter.members)) filter.members closed

pub rates_kept : CheckedRatesAreKept
rates_kept filter closed =
    let names = reverse (sized_fields filter.members) in
    IfOk-weaker (checked filter) (λ rates. (body : Body)
    → RunsKeep (body_rates body filter.members) (body_block body filter.members)
    (rates_of rates body)) _
    (λ rates kept body fields window. kept body (setting_of filter body window)
    (store_at filter fields) (fields_there filter fields) refl)
    (of_filters (ArePlain names) RunsKeep (body_kept names) filter (bodies_plain filter closed))
