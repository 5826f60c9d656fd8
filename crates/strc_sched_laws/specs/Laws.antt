-- What a schedule is worth.
use Rattle.std.specs.Prelude.{ℕ, ◌<◌, ◌≤◌, ◌^◌, ℤ, List, ◌++◌, length}
use Rattle.strc_elab_dataflow.specs.Order.{IsSchedule, counts_after}
use Rattle.strc_elab_dataflow.specs.Answer.{IsAnswer}
use Rattle.strc_elab_dataflow.specs.Queues.{fifo_run, fifo_at_first}
use Rattle.strc_elab_dataflow.specs.Streams as trees
use Rattle.strc_elab_graph.specs.Graphs.{NodeCode, Graph}
use Rattle.strc_elab_graph.specs.FlatGraphs.{IsProgram}
use Rattle.strc_elab_graph.specs.Meaning.{node_meaning}
use Rattle.strc_sched_orders.specs.Greedy.{firings_of}
use Rattle.strc_sched_orders.specs.Order.{firing_count, repeated}
use Rattle.strc_sched_orders.specs.Schedules.{ScheduleParts}
use Rattle.strc_sched_laws.specs.Planned.{IsPlanned, AreKnown, items_read}
use Rattle.strc_sched_laws.specs.Fits.{Fit}

module _ (schedule : ScheduleParts) where
  -- the orders of a schedule, and how often each node occurs in them
  abbrev pub startup_order : List ℕ
  startup_order = firings_of schedule.startup

  abbrev pub round_order : List ℕ
  round_order = firings_of schedule.round

  abbrev pub counts_at : (rounds : ℕ) → (node : ℕ) → ℕ
  counts_at rounds = counts_after (firing_count startup_order) (firing_count round_order) rounds

-- start-up and so many rounds of a schedule over a tree's graph: each firing finds what it looks
-- at, no buffer holds more than its size, and the run over queues is the answer of the equations
pub record IsAdmissible (tree : trees.Stream NodeCode) (graph : Graph) (schedule : ScheduleParts)
    (input : List ℤ) (rounds : ℕ) : Type 0 where
  pub finds : IsSchedule node_meaning (trees.flat tree) input
      (firing_count (startup_order schedule))
      (firing_count (round_order schedule)) (startup_order schedule) (round_order schedule) rounds
  pub fits : Fit (trees.flat tree) graph.channels schedule.sizes
      (startup_order schedule ++ repeated rounds (round_order schedule))
      (fifo_at_first node_meaning (trees.flat tree) input)
  pub answers : IsAnswer node_meaning tree input (firing_count (startup_order schedule))
      (firing_count (round_order schedule)) (startup_order schedule) (round_order schedule) rounds
      (fifo_run node_meaning (trees.flat tree) input (round_order schedule)
      (startup_order schedule) rounds)

-- the schedule of a program's graph is admissible for as many rounds as its input reaches for
abbrev pub SchedulesAreAdmissible : Type 0
SchedulesAreAdmissible =
    (tree : trees.Stream NodeCode) (graph : Graph) (schedule : ScheduleParts) (input : List ℤ)
    (rounds : ℕ)
    → IsProgram tree graph → IsPlanned graph schedule → AreKnown graph
    → rounds < 2 ^ 32
    → items_read graph.nodes (counts_at schedule rounds) ≤ length input
    → IsAdmissible tree graph schedule input rounds
