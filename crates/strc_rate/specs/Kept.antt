-- What the counted rates of a filter promise of its firings.
use Rattle.std.specs.Prelude.{◌≡◌, ℤ, List, length, Result, IfOk}
use Rattle.strc_work_meaning.specs.declared.body.Body.{Body}
use Rattle.strc_work_meaning.specs.declared.fault.Cause.{Cause}
use Rattle.strc_work_meaning.specs.Filters.{Filter, body_block, body_rates, push_rate, pop_rate}
use Rattle.strc_work_meaning.specs.Filters.{item_count}
use Rattle.strc_work_meaning.specs.Closed.{IsClosedFilter}
use Rattle.strc_work_meaning.specs.Firing.{Store, stmts_done, setting_of, store_at}
use Rattle.strc_rate.specs.Rates.{checked}

-- a body's text, run from these values of the fields before this window
abbrev pub run_of : Filter → Body → (fields window : List ℤ) → Result Store Cause
run_of filter body fields window =
    stmts_done (setting_of filter body window) (body_block body filter.members)
    (store_at filter fields)

-- each firing without a fault pops and pushes exactly the declared rates
abbrev pub KeepsRates : Filter → Type 0
KeepsRates filter =
    (body : Body) (fields window : List ℤ)
    → IfOk (run_of filter body fields window) (λ store.
    (store.traffic.popped ≡ item_count (pop_rate (body_rates body filter.members)))
    × (length store.traffic.pushes ≡ item_count (push_rate (body_rates body filter.members))))

-- the rates that are checked of a filter of known names are kept by its firings
abbrev pub CheckedRatesAreKept : Type 0
CheckedRatesAreKept = (filter : Filter) → IsClosedFilter filter
    → IfOk (checked filter) (λ rates. KeepsRates filter)
