-- Each firing of a filter whose rates are accepted, and whose peeks are all closed, stays in range.
use Rattle.std.proofs.Common.{◌≡◌, refl, sym, subst, ◌≤◌, List, [], length}
use Rattle.std.proofs.Common.{reverse, Result, Ok, Err, arith}
use Rattle.std.specs.Result.{IfOk}
use Rattle.std.proofs.lemmas.List.{length-take-le}
use Rattle.std.proofs.lemmas.Result.{IfOk-weaker}
use Rattle.strc_parse_tree.specs.Tree as tree
use Rattle.strc_work_meaning.specs.declared.body.Body.{Body}
use Rattle.strc_work_meaning.specs.Scoping.{Scope}
use Rattle.strc_work_meaning.specs.Filters.{sized_fields, body_block, body_rates, push_rate}
use Rattle.strc_work_meaning.specs.Filters.{pop_rate, item_count, window_size}
use Rattle.strc_work_meaning.specs.Firing.{Setting, Store, no_traffic, call_limit, stmts_done}
use Rattle.strc_work_meaning.specs.Firing.{setting_of, store_at}
use Rattle.strc_rate.specs.Counts.{stmts_counts}
use Rattle.strc_rate.specs.Entries.{peeks_of}
use Rattle.strc_rate.specs.Peeks.{body_sights}
use Rattle.strc_rate.specs.PeeksSafe.{StmtsAreSafe}
use Rattle.strc_rate.specs.Rates.{BodyRates, within_limit, are_within_limit, checked}
use Rattle.strc_rate.specs.Safe.{rates_of, HasEntries, HasSafePeeks}
use Rattle.strc_rate.specs.Ranges.{IsInRange, AllAreClosed, FiringsStayInRange}
use Rattle.strc_rate.proofs.Results.{and_first, and_second}
use Rattle.strc_rate.proofs.Unwritten.{scope_length}
use Rattle.strc_rate.proofs.Unreturned.{ArePlain}
use Rattle.strc_rate.proofs.KeptRates.{fields_there, limited, accepted_by, OfBodies, of_filters}
use Rattle.strc_rate.proofs.KeptRates.{bodies_plain}
use Rattle.strc_rate.proofs.FilterPeeks.{closed_peeks, each_entry}
use Rattle.strc_rate.proofs.Fitting.{IsNarrow, CountedFits}
use Rattle.strc_rate.proofs.Values.{CallsStay}
use Rattle.strc_rate.proofs.Statements.{stmts_stay}
use Rattle.strc_rate.proofs.Helpers.{called_stays}

-- each run of a block from no traffic, in a port of its rates and by what is known of its peeks
abbrev RunsStay : List tree.Rate → tree.Stmts → BodyRates → Type 0
RunsStay rates block accepted =
    (setting : Setting) (store : Store) → CallsStay setting
    → length setting.port.front ≡ item_count (pop_rate rates)
    → setting.port.room ≡ item_count (push_rate rates)
    → setting.fields ≤ length store.variables → store.traffic ≡ no_traffic
    → AllAreClosed accepted.closed → length accepted.closed ≡ length (peeks_of block)
    → StmtsAreSafe setting accepted.closed 0 block store
    → IsInRange (stmts_done setting block store)

body_stays : (names : Scope) → OfBodies (ArePlain names) RunsStay
body_stays names lacks rates block plain =
    accepted_by (are_within_limit rates) lacks rates (stmts_counts [] block)
    (body_sights (window_size rates) block) (RunsStay rates block)
    (λ c limits counts pushes pops setting store calls front room fields none all_closed size safe.
    let push_limit = limited (push_rate rates)
    (and_first (within_limit (push_rate rates)) _ limits) in
    let pop_limit = limited (pop_rate rates)
    (and_first (within_limit (pop_rate rates)) _
    (and_second (within_limit (push_rate rates)) _ limits)) in
    let narrow : IsNarrow setting.port = record { front = omega arith; room = omega arith } in
    let begins : CountedFits setting.port no_traffic (stmts_counts [] block) =
    subst (CountedFits setting.port no_traffic) (sym counts)
    (record { pops = omega arith; pushes = omega arith }) in
    stmts_stay setting narrow calls _ all_closed block [] names 0 store plain
    (omega (arith, fields, scope_length store.variables))
    (subst (λ traffic. CountedFits setting.port traffic (stmts_counts [] block)) (sym none) begins)
    (omega arith) safe)

both_known : {A E : Type 0} (result : Result A E) (P Q : A → Type 0) → IfOk result P
    → IfOk result Q → IfOk result (λ a. P a × Q a)
both_known (Ok a) P Q h k = (h, k)
both_known (Err why) P Q h k = tt

pub firings_stay : FiringsStayInRange
firings_stay filter closed =
    let names = reverse (sized_fields filter.members) in
    IfOk-weaker (checked filter) (λ rates. ((body : Body)
    → RunsStay (body_rates body filter.members) (body_block body filter.members)
    (rates_of rates body)) × (HasEntries filter rates × HasSafePeeks filter rates)) _
    (λ rates known body fields window whole all_closed.
    let declared = body_rates body filter.members in
    let enough : item_count (pop_rate declared) ≤ length window = omega arith in
    known.0 body (setting_of filter body window) (store_at filter fields)
    (called_stays names filter.members closed call_limit)
    (length-take-le (item_count (pop_rate declared)) window enough) refl
    (fields_there filter fields) refl all_closed (known.1.0 body)
    (known.1.1 body fields window whole))
    (both_known (checked filter) _ _
    (of_filters (ArePlain names) RunsStay (body_stays names) filter (bodies_plain filter closed))
    (both_known (checked filter) _ _ (each_entry filter) (closed_peeks filter closed)))
