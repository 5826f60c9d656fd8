-- That no firing pops or pushes past its rates or looks past its window, whatever it faults with.
use Rattle.std.specs.Prelude.{◌≡◌, ◌≤◌, ◌<◌, ℕ, ℤ, Bool, true, false, List, length, get_or}
use Rattle.std.specs.Prelude.{Result, Ok, Err, IfOk}
use Rattle.strc_work_meaning.specs.declared.body.Body.{Body}
use Rattle.strc_work_meaning.specs.declared.fault.Cause.{Cause}
use Rattle.strc_work_meaning.specs.declared.fault.Cause.TheVariants.{DivZero, Index, PeekRange}
use Rattle.strc_work_meaning.specs.declared.fault.Cause.TheVariants.{Turns, Calls}
use Rattle.strc_work_meaning.specs.Filters.{Filter, body_rates, window_size}
use Rattle.strc_work_meaning.specs.Closed.{IsClosedFilter}
use Rattle.strc_rate.specs.Kept.{run_of}
use Rattle.strc_rate.specs.Rates.{FilterRates, checked}
use Rattle.strc_rate.specs.Safe.{rates_of}

-- a run that comes to no item outside its window and to no push past its room: `PeekRange` is the
-- fault of these alone, at once
abbrev pub IsInRange : {A : Type 0} → Result A Cause → Type 0
IsInRange (Ok given) = Unit {0}
IsInRange (Err PeekRange) = ⊥
IsInRange (Err DivZero) = Unit {0}
IsInRange (Err Index) = Unit {0}
IsInRange (Err Turns) = Unit {0}
IsInRange (Err Calls) = Unit {0}

-- each peek is closed, by its entries
abbrev pub AllAreClosed : List Bool → Type 0
AllAreClosed entries = (place : ℕ) → place < length entries → get_or entries place false ≡ true

-- each firing before a whole window, of a body whose peeks are all closed, pops and pushes at most
-- the declared rates and looks at no item past its window, up to its end or to its fault
abbrev pub StaysInRange : Filter → FilterRates → Type 0
StaysInRange filter rates =
    (body : Body) (fields window : List ℤ)
    → window_size (body_rates body filter.members) ≤ length window
    → AllAreClosed (rates_of rates body).closed
    → IsInRange (run_of filter body fields window)

-- and so do the firings of a filter of known names whose rates are accepted
abbrev pub FiringsStayInRange : Type 0
FiringsStayInRange = (filter : Filter) → IsClosedFilter filter
    → IfOk (checked filter) (StaysInRange filter)
