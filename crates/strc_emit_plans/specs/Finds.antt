-- Each firing of a schedule finds its windows in the queues.
use Rattle.std.specs.Prelude.{ℕ, ◌<◌, ◌≤◌, ◌^◌, ℤ, List, length}
use Rattle.strc_elab_dataflow.specs.Queues.{fifo_go, fifo_at_first}
use Rattle.strc_elab_dataflow.specs.Streams as trees
use Rattle.strc_elab_graph.specs.FlatGraphs.{IsProgram}
use Rattle.strc_elab_graph.specs.Graphs.{NodeCode, Graph}
use Rattle.strc_elab_graph.specs.Meaning.{node_meaning}
use Rattle.strc_sched_orders.specs.Schedules.{ScheduleParts}
use Rattle.strc_sched_laws.specs.Laws.{startup_order, round_order, counts_at}
use Rattle.strc_sched_laws.specs.Planned.{IsPlanned, AreKnown, items_read}
use Rattle.strc_emit_runs.specs.Orders.{FindsAlong, FindsInRounds, IfWent}

-- in start-up, and then in so many rounds
pub record FindsAll (tree : trees.Stream NodeCode) (schedule : ScheduleParts) (input : List ℤ)
    (rounds : ℕ) : Type 0 where
  pub startup : FindsAlong (trees.flat tree) (startup_order schedule)
      (fifo_at_first node_meaning (trees.flat tree) input)
  pub rounds_find : IfWent (FindsInRounds (trees.flat tree) (round_order schedule) rounds)
      (fifo_go node_meaning (trees.flat tree) (startup_order schedule)
      (fifo_at_first node_meaning (trees.flat tree) input))

abbrev pub SchedulesFind : Type 0
SchedulesFind =
    (tree : trees.Stream NodeCode) (graph : Graph) (schedule : ScheduleParts) (input : List ℤ)
    (rounds : ℕ)
    → IsProgram tree graph → IsPlanned graph schedule → AreKnown graph
    → rounds < 2 ^ 32
    → items_read graph.nodes (counts_at schedule rounds) ≤ length input
    → FindsAll tree schedule input rounds
