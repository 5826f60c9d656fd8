-- Units, without what holds their lists.
use Rattle.std.specs.Prelude.{ℕ, List, map}
use Rattle.strc_sched_orders.specs.declared.unit as units

-- a list of nodes, and how often it fires
pub record UnitView : Type 0 where
  pub turns : ℕ
  pub nodes : List ℕ

abbrev pub unit_view : units.Unit.Unit → UnitView
unit_view unit = record { turns = unit.turns; nodes = unit.nodes.items }

abbrev pub unit_views : List units.Unit.Unit → List UnitView
unit_views units = map unit_view units
