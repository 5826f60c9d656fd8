-- The nodes of a planned graph after fission: what laws on graphs that go on from a state ask of
-- each one.
use Rattle.std.specs.Prelude.{ℕ, List}
use Rattle.strc_elab_dataflow.specs.Streams as trees
use Rattle.strc_elab_graph.specs.Graphs.{NodeCode, Graph, IsGraph}
use Rattle.strc_elab_graph.specs.FlatGraphs.{IsProgram}
use Rattle.strc_sched_orders.specs.Schedules.{ScheduleParts}
use Rattle.strc_sched_laws.specs.Planned.{IsPlanned, AreKnown}
use Rattle.strc_sched_laws.specs.Nodes.{HasItsRates}
use Rattle.strc_sched_laws.specs.Repeats.{IsNarrow}
use Rattle.strc_stage_plan.specs.Runs.{graph_after}

-- a node pushes at its rates, and takes no more than it looks at
abbrev pub IsRated : NodeCode → Type 0
IsRated code = HasItsRates code × IsNarrow code

-- So does each node of a program's graph after fission.
abbrev pub SplitNodesAreRated : Type 0
SplitNodesAreRated =
    (tree : trees.Stream NodeCode) (old : Graph) (schedule : ScheduleParts) (round : List ℕ)
    (ways : ℕ)
    → IsProgram tree old → IsGraph old → IsPlanned old schedule → AreKnown old
    → (node : ℕ) → IsRated ((graph_after tree old schedule round ways).code node)
