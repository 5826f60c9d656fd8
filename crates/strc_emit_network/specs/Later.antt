-- Firings that are done as the later ones of a node: none of them is that of a prework.
use Rattle.std.specs.Prelude.{◌≡◌, ◌⊎◌, ℕ, ◌≤◌, ℤ, List, None}
use Rattle.strc_work_meaning.specs.declared.body.Body.TheVariants as body
use Rattle.strc_work_meaning.specs.Filters.{Filter, prework_block, prework_rates}
use Rattle.strc_work_meaning.specs.Firing.{fired}
use Rattle.strc_elab_graph.specs.Graphs.{NodeCode}
use Rattle.strc_elab_graph.specs.Graphs as graphs
use Rattle.strc_elab_graph.specs.Rates.{body_at}
use Rattle.strc_emit_passes.specs.Passing.{IsPassing}
use Rattle.strc_sched_laws.specs.Repeats.{HaveSameRates}

-- a filter without a prework
pub record HasNoPrework (filter : Filter) : Type 0 where
  pub block : prework_block filter.members ≡ None
  pub rates : prework_rates filter.members ≡ None

-- a firing of a filter after its first one, or of one without a prework
abbrev pub IsWorkFiring : Filter → (firing : ℕ) → Type 0
IsWorkFiring filter firing = HasNoPrework filter ⊎ (1 ≤ firing)

abbrev pub IsLaterFiring : NodeCode → (firing : ℕ) → Type 0
IsLaterFiring (graphs.Filter name filter) firing = IsWorkFiring filter firing
IsLaterFiring code firing = IsPassing code

-- such a firing of a filter is one of its work
abbrev pub WorksFireLater : Type 0
WorksFireLater =
    (filter : Filter) (firing : ℕ) (fields window : List ℤ) → IsWorkFiring filter firing
    → fired filter (body_at firing) fields window ≡ fired filter body.Work fields window

-- and has the rates of its later ones
abbrev pub LaterRatesAreSame : Type 0
LaterRatesAreSame =
    (code : NodeCode) (firing : ℕ) → IsLaterFiring code firing → HaveSameRates code firing 1
