-- A planned program's graph after fission, by its channels: what laws on rings ask of it.
use Rattle.std.specs.Prelude.{ℕ, List}
use Rattle.strc_elab_dataflow.specs.Streams as trees
use Rattle.strc_elab_graph.specs.Graphs.{NodeCode, Graph, IsGraph}
use Rattle.strc_elab_graph.specs.FlatGraphs.{IsProgram}
use Rattle.strc_sched_orders.specs.Schedules.{ScheduleParts}
use Rattle.strc_sched_laws.specs.ByChannels.{IsByChannels}
use Rattle.strc_sched_laws.specs.NodeSteps.{HasOwnWindow}
use Rattle.strc_sched_laws.specs.Planned.{IsPlanned, AreKnown}
use Rattle.strc_stage_plan.specs.SplitLaws.{new_graph}
use Rattle.strc_stage_plan.specs.Runs.{graph_after}

-- Its flat graph is that of its nodes and channels.
abbrev pub SplitGraphsAreByChannels : Type 0
SplitGraphsAreByChannels =
    (tree : trees.Stream NodeCode) (old : Graph) (schedule : ScheduleParts) (round : List ℕ)
    (ways : ℕ)
    → IsProgram tree old → IsGraph old → IsPlanned old schedule → AreKnown old
    → IsByChannels (graph_after tree old schedule round ways) (new_graph old schedule round ways)

-- Each copy looks at as many items as what it copies.
abbrev pub SplitCopiesHaveOwnWindows : Type 0
SplitCopiesHaveOwnWindows =
    (tree : trees.Stream NodeCode) (old : Graph) (schedule : ScheduleParts) (round : List ℕ)
    (ways : ℕ)
    → IsProgram tree old → IsGraph old → IsPlanned old schedule → AreKnown old
    → (node firing : ℕ)
    → HasOwnWindow ((graph_after tree old schedule round ways).code node) firing
