-- A firing of a copy of a filter.
use Rattle.std.specs.Prelude.{ℕ, ℤ, List, Option, None}
use Rattle.strc_work_meaning.specs.Filters as filters
use Rattle.strc_elab_graph.specs.declared.graph.Fission.{Fission}
use Rattle.strc_elab_graph.specs.Graphs.{OfFilter}
use Rattle.strc_sched_laws.specs.Rings.{Ring}
use Rattle.strc_sched_laws.specs.Steps.{Step, copy_step}

-- it is the same whatever the filter's name
abbrev pub copied_step : filters.Filter → Fission → (firing : ℕ) → (fields : List ℤ)
    → (input output : Option ℕ) → List Ring → Step
copied_step filter = copy_step (OfFilter None filter)
