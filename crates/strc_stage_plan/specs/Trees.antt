-- A program's flat graph by its tree, and the one by its nodes and channels: ports that carry no
-- items have a source in the tree and no channel, and make no difference.
use Rattle.std.specs.Prelude.{◌≡◌, ℕ, ℤ, List}
use Rattle.strc_elab_dataflow.specs.Queues.{fifo_run}
use Rattle.strc_elab_dataflow.specs.Streams.{any_code}
use Rattle.strc_elab_dataflow.specs.Streams as trees
use Rattle.strc_elab_graph.specs.Graphs.{NodeCode, Graph}
use Rattle.strc_elab_graph.specs.FlatGraphs.{IsProgram}
use Rattle.strc_elab_graph.specs.Meaning.{node_meaning}
use Rattle.strc_sched_orders.specs.Schedules.{ScheduleParts}
use Rattle.strc_sched_laws.specs.Planned.{IsPlanned}
use Rattle.strc_stage_plan.specs.Sources.{flat_graph}

-- The flat graph by channels runs as the tree's does, over queues.
abbrev pub ChannelRunsAreTreeRuns : Type 0
ChannelRunsAreTreeRuns =
    (tree : trees.Stream NodeCode) (graph : Graph) (schedule : ScheduleParts) (input : List ℤ)
    (startup_order round_order : List ℕ) (rounds : ℕ)
    → IsProgram tree graph → IsPlanned graph schedule
    → fifo_run node_meaning (flat_graph (any_code tree) graph) input round_order startup_order
    rounds
    ≡ fifo_run node_meaning (trees.flat tree) input round_order startup_order rounds
