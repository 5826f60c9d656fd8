-- That lowered code comes to no item outside its window and to no push past its room.
use Rattle.std.specs.Prelude.{◌≡◌, ◌≤◌, ◌<◌, ℕ, ℤ, pos, List, length, get_or, IfOk}
use Rattle.strc_work_meaning.specs.declared.body.Body.{Body}
use Rattle.strc_work_meaning.specs.Scoping.{total}
use Rattle.strc_work_meaning.specs.Filters.{Filter, sized_fields, body_rates, window_size}
use Rattle.strc_work_meaning.specs.Closed.{IsClosedFilter}
use Rattle.strc_work_meaning.specs.Firing.{setting_of, no_traffic}
use Rattle.strc_work_code.specs.Lowering.{body_nodes, slot_count}
use Rattle.strc_work_code.specs.Nodes.{nodes_done}
use Rattle.strc_rate.specs.Rates.{FilterRates, checked}
use Rattle.strc_rate.specs.Safe.{rates_of}
use Rattle.strc_rate.specs.Ranges.{IsInRange, AllAreClosed}

-- the code of each body whose peeks are all closed does so, in slots that begin with the fields'
-- values, before a whole window
abbrev pub CodeStaysInRange : Filter → FilterRates → Type 0
CodeStaysInRange filter rates =
    (body : Body) (fields slots window : List ℤ)
    → length fields ≡ total (sized_fields filter.members)
    → ((slot : ℕ) → slot < length fields → get_or slots slot (pos 0) ≡ get_or fields slot (pos 0))
    → slot_count filter ≤ length slots
    → window_size (body_rates body filter.members) ≤ length window
    → AllAreClosed (rates_of rates body).closed
    → IsInRange (nodes_done (setting_of filter body window) (body_nodes body filter)
    (record { slots = slots; traffic = no_traffic }))

-- so does that of a filter of known names whose rates are accepted
abbrev pub CodesStayInRange : Type 0
CodesStayInRange = (filter : Filter) → IsClosedFilter filter
    → IfOk (checked filter) (CodeStaysInRange filter)
