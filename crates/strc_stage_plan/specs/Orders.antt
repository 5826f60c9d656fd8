-- The round after fission: each firing finds its windows.
use Rattle.std.specs.Prelude.{ℕ, List}
use Rattle.strc_elab_dataflow.specs.Streams as trees
use Rattle.strc_elab_graph.specs.Graphs.{NodeCode, Graph, IsGraph}
use Rattle.strc_elab_graph.specs.FlatGraphs.{IsProgram}
use Rattle.strc_sched_orders.specs.Firings.{none_fired}
use Rattle.strc_sched_orders.specs.Order.{IsOrder}
use Rattle.strc_sched_orders.specs.Schedules.{ScheduleParts}
use Rattle.strc_sched_orders.specs.Sizing.{round_rates_on}
use Rattle.strc_sched_laws.specs.Planned.{IsPlanned, AreKnown}
use Rattle.strc_fuse.specs.Units.{round_units}
use Rattle.strc_fiss.specs.Laws.{AreOwn}
use Rattle.strc_fiss.specs.Splitting.{split_last}
use Rattle.strc_fiss.specs.Ways.{fission_of}
use Rattle.strc_stage_plan.specs.SplitLaws.{new_graph, split_order}

-- Where each node that is split has all its firings in one unit of a planned round, the round after
-- fission is an order, from the items that are on the channels after start-up.
abbrev pub SplitRoundsAreOrders : Type 0
SplitRoundsAreOrders =
    (tree : trees.Stream NodeCode) (old : Graph) (schedule : ScheduleParts) (round : List ℕ)
    (ways : ℕ)
    → IsProgram tree old → IsGraph old → IsPlanned old schedule → AreKnown old
    → AreOwn (fission_of old round ways) (round_units schedule.round)
    → IsOrder (round_rates_on (new_graph old schedule round ways)
    (split_last (fission_of old round ways) old schedule.greatest schedule.last)) none_fired
    (split_order old schedule round ways)
