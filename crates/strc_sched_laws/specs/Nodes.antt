-- Each firing of a node pushes at its rates, the nodes of fission included.
use Rattle.std.specs.Prelude.{◌≡◌, ℕ, true, ℤ, List, length, IfOk}
use Rattle.strc_work_meaning.specs.Filters as filters
use Rattle.strc_work_meaning.specs.Firing.{fired}
use Rattle.strc_elab_graph.specs.Graphs.{NodeCode, Filter, Copy, OfFilter, OfIdentity}
use Rattle.strc_elab_graph.specs.Meaning.{node_meaning}
use Rattle.strc_elab_graph.specs.Rates.{body_at, filter_pushes}
use Rattle.strc_elab_dataflow.specs.Rates.{PushesRates}

-- each firing of a filter that doesn't fault pushes as many items as its rates say
abbrev pub FilterPushes : filters.Filter → Type 0
FilterPushes filter =
    (firing : ℕ) (fields window : List ℤ)
    → IfOk (fired filter (body_at firing) fields window)
    (λ done. length done.pushes ≡ filter_pushes filter firing)

-- a filter pushes as its rates say, and a share has the rates of what is copied
abbrev pub HasItsRates : NodeCode → Type 0
HasItsRates (Filter name filter) = FilterPushes filter
HasItsRates (Copy (OfFilter name filter) fission) =
    FilterPushes filter × ((firing : ℕ) → filter_pushes filter firing ≡ fission.push)
HasItsRates (Copy OfIdentity fission) = (fission.window ≡ 1) × (fission.push ≡ 1)
HasItsRates _ = Unit {0}

-- Each firing of a node, from any values of its fields, pushes at its rates.
abbrev pub NodesPushRates : Type 0
NodesPushRates =
    (code : NodeCode) → HasItsRates code → PushesRates node_meaning code (λ fields. true)
