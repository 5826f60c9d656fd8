-- What is known of the peeks of a filter, and what its closed peeks promise of its firings.
use Rattle.std.specs.Prelude.{◌≡◌, ◌≤◌, ℤ, List, length, unwrap_or, IfOk}
use Rattle.strc_work_meaning.specs.declared.body.Body.{Body}
use Rattle.strc_work_meaning.specs.declared.body.Body.TheVariants as body
use Rattle.strc_work_meaning.specs.Filters.{Filter, body_block, body_rates, window_size}
use Rattle.strc_work_meaning.specs.Closed.{IsClosedFilter}
use Rattle.strc_work_meaning.specs.Firing.{setting_of, store_at}
use Rattle.strc_rate.specs.Entries.{peeks_of}
use Rattle.strc_rate.specs.PeeksSafe.{StmtsAreSafe}
use Rattle.strc_rate.specs.Rates.{BodyRates, FilterRates, checked}

-- the rates of a body; without a prework the first firing is one of the work
abbrev pub rates_of : FilterRates → Body → BodyRates
rates_of rates body.Prework = unwrap_or rates.prework rates.work
rates_of rates body.Work = rates.work

-- each peek of the text of a body has an entry
abbrev pub HasEntries : Filter → FilterRates → Type 0
HasEntries filter rates =
    (body : Body)
    → length (rates_of rates body).closed ≡ length (peeks_of (body_block body filter.members))

-- in each firing of a filter before a whole window, each peek that is run and whose entry is closed
-- finds its item
abbrev pub HasSafePeeks : Filter → FilterRates → Type 0
HasSafePeeks filter rates =
    (body : Body) (fields window : List ℤ)
    → window_size (body_rates body filter.members) ≤ length window
    → StmtsAreSafe (setting_of filter body window) (rates_of rates body).closed 0
    (body_block body filter.members) (store_at filter fields)

-- a peek that is reported as closed in a filter of known names doesn't fault
abbrev pub ClosedPeeksNeverFault : Type 0
ClosedPeeksNeverFault = (filter : Filter) → IsClosedFilter filter
    → IfOk (checked filter) (HasSafePeeks filter)

-- entries and peeks of a filter whose rates are accepted keep step
abbrev pub EachPeekHasAnEntry : Type 0
EachPeekHasAnEntry = (filter : Filter) → IfOk (checked filter) (HasEntries filter)
