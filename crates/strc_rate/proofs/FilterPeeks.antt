-- Each peek of a filter whose rates are accepted has an entry, and each closed one finds its item.
use Rattle.std.proofs.Common.{◌≡◌, refl, ap, ◌∙◌, ◌<◌, ◌≤◌, true, List, [], length, take, reverse}
use Rattle.std.proofs.Common.{arith}
use Rattle.std.specs.Prelude.{is_some}
use Rattle.std.proofs.lemmas.List.{length-map, length-take-le}
use Rattle.std.proofs.lemmas.Result.{IfOk-weaker}
use Rattle.strc_parse_tree.specs.Tree as tree
use Rattle.strc_work_meaning.specs.declared.body.Body.{Body}
use Rattle.strc_work_meaning.specs.Scoping.{Scope}
use Rattle.strc_work_meaning.specs.Filters.{sized_fields, body_block, body_rates, push_rate}
use Rattle.strc_work_meaning.specs.Filters.{pop_rate}
use Rattle.strc_work_meaning.specs.Filters.{peek_rate, window_size}
use Rattle.strc_rate.proofs.Unreturned.{ArePlain}
use Rattle.strc_work_meaning.specs.Firing.{Setting, Store, no_traffic, setting_of, store_at}
use Rattle.strc_rate.specs.Counts.{stmts_counts}
use Rattle.strc_rate.specs.declared.counts.TheConstants.{COUNT_LIMIT}
use Rattle.strc_rate.specs.Entries.{peeks_of}
use Rattle.strc_rate.specs.Peeks.{is_closed, body_sights}
use Rattle.strc_rate.specs.PeeksSafe.{StmtsAreSafe}
use Rattle.strc_rate.proofs.PeeksPromised as text
use Rattle.strc_rate.proofs.Results.{and_first, and_second}
use Rattle.strc_rate.specs.Rates.{BodyRates, within_limit, are_within_limit, checked}
use Rattle.strc_rate.specs.Safe.{rates_of, ClosedPeeksNeverFault, EachPeekHasAnEntry}
use Rattle.strc_rate.proofs.KeptRates.{fields_there, limited, accepted_by, OfBodies, of_filters}
use Rattle.strc_rate.proofs.KeptRates.{bodies_plain}

-- each run of a block from no traffic is safe, before a window that is whole
abbrev RunsSafe : List tree.Rate → tree.Stmts → BodyRates → Type 0
RunsSafe rates block accepted =
    (setting : Setting) (store : Store) → window_size rates ≤ length setting.port.ahead
    → setting.fields ≤ length store.variables → store.traffic ≡ no_traffic
    → StmtsAreSafe setting accepted.closed 0 block store

small_window : (rates : List tree.Rate) → are_within_limit rates ≡ true
    → window_size rates < COUNT_LIMIT
small_window rates limits =
    let rest = and_second (within_limit (push_rate rates)) _ limits in
    let pops = limited (pop_rate rates) (and_first (within_limit (pop_rate rates)) _ rest) in
    let peeks = limited (peek_rate rates) (and_second (within_limit (pop_rate rates)) _ rest) in
    omega arith

body_safe : (names : Scope) → OfBodies (ArePlain names) RunsSafe
body_safe names lacks rates block closed =
    accepted_by (are_within_limit rates) lacks rates (stmts_counts [] block)
    (body_sights (window_size rates) block) (RunsSafe rates block)
    (λ c limits counts pushes pops setting store ahead room none.
    text.closed_peeks (window_size rates) setting block names store
    (small_window rates limits) ahead closed.0 closed.1 (ap is_some counts) room none)

pub closed_peeks : ClosedPeeksNeverFault
closed_peeks filter closed =
    let names = reverse (sized_fields filter.members) in
    IfOk-weaker (checked filter) (λ rates. (body : Body)
    → RunsSafe (body_rates body filter.members) (body_block body filter.members)
    (rates_of rates body)) _
    (λ rates safe body fields window le.
    let size = window_size (body_rates body filter.members) in
    let ahead : length (take size window) ≡ size = length-take-le size window le in
    safe body (setting_of filter body window) (store_at filter fields) (omega arith)
    (fields_there filter fields) refl)
    (of_filters (ArePlain names) RunsSafe (body_safe names) filter (bodies_plain filter closed))

-- as many entries as peeks
abbrev KeepsStep : List tree.Rate → tree.Stmts → BodyRates → Type 0
KeepsStep rates block accepted = length accepted.closed ≡ length (peeks_of block)

body_entries : OfBodies (λ block. Unit {0}) KeepsStep
body_entries lacks rates block any =
    accepted_by (are_within_limit rates) lacks rates (stmts_counts [] block)
    (body_sights (window_size rates) block) (KeepsStep rates block)
    (λ c limits counts pushes pops. length-map (body_sights (window_size rates) block) is_closed
    ∙ text.each_entry (window_size rates) block)

pub each_entry : EachPeekHasAnEntry
each_entry filter =
    IfOk-weaker (checked filter) (λ rates. (body : Body)
    → KeepsStep (body_rates body filter.members) (body_block body filter.members)
    (rates_of rates body)) _ (λ rates kept body. kept body)
    (of_filters (λ block. Unit {0}) KeepsStep body_entries filter (λ body. tt))
