-- The rounds of a program's graph after fission: from the state that start-up left, dealt out to
-- the parts, each firing has the rates of the one a round before.
use Rattle.std.specs.Prelude.{◌≡◌, ℕ, ◌≤◌, ℤ, List, length}
use Rattle.strc_elab_dataflow.specs.Order as orders
use Rattle.strc_elab_dataflow.specs.Queues.{FifoProgress.FifoWent, fifo_go, fifo_at_first}
use Rattle.strc_elab_dataflow.specs.Streams as trees
use Rattle.strc_elab_graph.specs.Graphs.{NodeCode, Graph, IsGraph}
use Rattle.strc_elab_graph.specs.FlatGraphs.{IsProgram}
use Rattle.strc_elab_graph.specs.Meaning.{node_meaning}
use Rattle.strc_sched_orders.specs.Schedules.{ScheduleParts}
use Rattle.strc_sched_laws.specs.Fits.{Queues}
use Rattle.strc_sched_laws.specs.Laws.{startup_order, counts_at}
use Rattle.strc_sched_laws.specs.Planned.{IsPlanned, AreKnown, items_read}
use Rattle.strc_fuse.specs.Units.{round_units}
use Rattle.strc_fiss.specs.Laws.{AreOwn}
use Rattle.strc_fiss.specs.Ways.{fission_of}
use Rattle.strc_elab_dataflow.specs.RestartRounds.{RepeatsByRounds}
use Rattle.strc_elab_dataflow.specs.Schedules.{fired_in}
use Rattle.strc_stage_plan.specs.SplitLaws.{split_order}
use Rattle.strc_stage_plan.specs.Runs.{graph_before, graph_after, dealt_from}

abbrev pub SplitRoundsRepeat : Type 0
SplitRoundsRepeat =
    (tree : trees.Stream NodeCode) (old : Graph) (schedule : ScheduleParts) (round : List ℕ)
    (ways : ℕ) (input : List ℤ) (rounds : ℕ) (started : Queues)
    → IsProgram tree old → IsGraph old → IsPlanned old schedule → AreKnown old
    → AreOwn (fission_of old round ways) (round_units schedule.round)
    → items_read old.nodes (counts_at schedule rounds) ≤ length input
    → fifo_go node_meaning (graph_before tree old schedule round ways) (startup_order schedule)
    (fifo_at_first node_meaning (graph_before tree old schedule round ways) input)
    ≡ FifoWent started
    → RepeatsByRounds node_meaning (graph_after tree old schedule round ways)
    (fired_in node_meaning (graph_after tree old schedule round ways)
    (dealt_from tree old schedule round ways started))
    (orders.firing_count (split_order old schedule round ways))
