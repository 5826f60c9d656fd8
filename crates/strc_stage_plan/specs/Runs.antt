-- The rounds of a program's graph, and those of the graph after fission.
use Rattle.std.specs.Prelude.{◌≡◌, ℕ, ◌≤◌, cond, ℤ, List, length}
use Rattle.strc_elab_dataflow.specs.Flat as flat
use Rattle.strc_elab_dataflow.specs.Histories.{initial_run}
use Rattle.strc_elab_dataflow.specs.Queues.{FifoProgress.FifoWent, fifo_go, fifo_at_first}
use Rattle.strc_elab_dataflow.specs.Queues.{fifo_rounds}
use Rattle.strc_elab_dataflow.specs.Streams.{any_code}
use Rattle.strc_elab_dataflow.specs.Streams as trees
use Rattle.strc_elab_graph.specs.Graphs.{NodeCode, Graph, IsGraph}
use Rattle.strc_elab_graph.specs.FlatGraphs.{IsProgram}
use Rattle.strc_elab_graph.specs.Meaning.{node_meaning}
use Rattle.strc_sched_orders.specs.Order.{firing_count}
use Rattle.strc_sched_orders.specs.Schedules.{ScheduleParts}
use Rattle.strc_sched_laws.specs.Fits.{Queues}
use Rattle.strc_sched_laws.specs.Laws.{startup_order, round_order, counts_at}
use Rattle.strc_sched_laws.specs.Planned.{IsPlanned, AreKnown, items_read}
use Rattle.strc_elab_dataflow.specs.Runs.{IsSameOutcome}
use Rattle.strc_elab_dataflow.specs.Split.{Parts}
use Rattle.strc_elab_dataflow.specs.Starting.{queues_dealt}
use Rattle.strc_fuse.specs.Units.{round_units}
use Rattle.strc_fiss.specs.Laws.{AreOwn}
use Rattle.strc_fiss.specs.Numbers.{is_dealt, parts_after}
use Rattle.strc_fiss.specs.Ways.{fission_of}
use Rattle.strc_stage_plan.specs.SplitLaws.{new_graph, split_order}
use Rattle.strc_stage_plan.specs.Owners.{owner}
use Rattle.strc_stage_plan.specs.Sources.{flat_graph}

module _ (tree : trees.Stream NodeCode) (old : Graph) (schedule : ScheduleParts)
    (round : List ℕ) (ways : ℕ) where
  -- the flat graphs before and after fission
  abbrev pub graph_before : flat.Graph NodeCode
  graph_before = flat_graph (any_code tree) old

  abbrev pub graph_after : flat.Graph NodeCode
  graph_after = flat_graph (any_code tree) (new_graph old schedule round ways)

  -- the parts of the nodes, which had fired in start-up
  abbrev pub parts_of : Parts
  parts_of = parts_after (fission_of old round ways) (firing_count (startup_order schedule))

  -- The state that start-up came to, dealt out: a node that isn't split goes on, each part of one
  -- that is starts as its own code does, and what waits at a node waits at its first part.
  abbrev pub dealt_from : Queues → Queues
  dealt_from started = record {
    runs = λ number. cond
        (is_dealt (fission_of old round ways (owner (fission_of old round ways) number).node))
        (initial_run node_meaning (graph_after.code number))
        (started.runs (owner (fission_of old round ways) number).node);
    queues = λ number. queues_dealt parts_of node_meaning graph_before started
        (owner (fission_of old round ways) number).node
        (owner (fission_of old round ways) number).part;
  }

-- After start-up so many rounds of a planned graph and of the graph after fission come to the same:
-- all words of each node that isn't split; or a fault of the same cause in the same round, at the
-- same firing of the same node or of the copy that has this firing.
abbrev pub FissionKeepsProgramRuns : Type 0
FissionKeepsProgramRuns =
    (tree : trees.Stream NodeCode) (old : Graph) (schedule : ScheduleParts) (round : List ℕ)
    (ways : ℕ) (input : List ℤ) (rounds : ℕ) (started : Queues)
    → IsProgram tree old → IsGraph old → IsPlanned old schedule → AreKnown old
    → AreOwn (fission_of old round ways) (round_units schedule.round)
    → items_read old.nodes (counts_at schedule rounds) ≤ length input
    → fifo_go node_meaning (graph_before tree old schedule round ways) (startup_order schedule)
    (fifo_at_first node_meaning (graph_before tree old schedule round ways) input)
    ≡ FifoWent started
    → IsSameOutcome (parts_of tree old schedule round ways)
    (fifo_rounds node_meaning (graph_before tree old schedule round ways) input
    (round_order schedule) rounds 0 started)
    (fifo_rounds node_meaning (graph_after tree old schedule round ways) input
    (split_order old schedule round ways) rounds 0
    (dealt_from tree old schedule round ways started))
