-- What a filter without state promises of its firings, and what each filter starts with.
use Rattle.std.specs.Prelude.{◌≡◌, ℤ, true, List, length, IfOk}
use Rattle.strc_work_meaning.specs.declared.body.Body.TheVariants as body
use Rattle.strc_work_meaning.specs.Filters.{Filter, sized_fields}
use Rattle.strc_work_meaning.specs.Scoping.{total}
use Rattle.strc_work_meaning.specs.Closed.{IsClosedFilter}
use Rattle.strc_work_meaning.specs.Firing.{started, fired}
use Rattle.strc_work_writes.specs.Stateless.{is_stateless}

-- each firing of a filter of known names without a fault leaves the fields as they were, whatever
-- their values: one for each cell
abbrev pub StatelessKeepsFields : Type 0
StatelessKeepsFields =
    (filter : Filter) (fields window : List ℤ) → is_stateless filter ≡ true
    → IsClosedFilter filter
    → length fields ≡ total (sized_fields filter.members)
    → IfOk (fired filter body.Work fields window) (λ done. done.fields ≡ fields)

-- the fields that a filter of known names starts with are one for each cell
abbrev pub StartedFieldsFit : Type 0
StartedFieldsFit =
    (filter : Filter) → IsClosedFilter filter
    → IfOk (started filter) (λ fields. length fields ≡ total (sized_fields filter.members))
