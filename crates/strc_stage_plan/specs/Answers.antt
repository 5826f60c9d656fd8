-- The rounds after fission come to the answer of the program's stream equations.
use Rattle.std.specs.Prelude.{◌≡◌, ℕ, ◌≤◌, ℤ, List, length}
use Rattle.strc_elab_dataflow.specs.Answer.{Outcome, IsAnswer}
use Rattle.strc_elab_dataflow.specs.Queues.{FifoProgress.FifoWent, fifo_go, fifo_at_first}
use Rattle.strc_elab_dataflow.specs.Queues.{fifo_rounds}
use Rattle.strc_elab_dataflow.specs.Streams as trees
use Rattle.strc_work_meaning.specs.declared.fault.Cause.{Cause}
use Rattle.strc_work_meaning.specs.declared.word.Word.{Word}
use Rattle.strc_elab_graph.specs.Graphs.{NodeCode, Graph, IsGraph}
use Rattle.strc_elab_graph.specs.FlatGraphs.{IsProgram}
use Rattle.strc_elab_graph.specs.Meaning.{node_meaning}
use Rattle.strc_sched_orders.specs.Order.{firing_count}
use Rattle.strc_sched_orders.specs.Schedules.{ScheduleParts}
use Rattle.strc_sched_laws.specs.Fits.{Queues}
use Rattle.strc_sched_laws.specs.Laws.{startup_order, round_order, counts_at}
use Rattle.strc_sched_laws.specs.Planned.{IsPlanned, AreKnown, items_read}
use Rattle.strc_elab_dataflow.specs.Runs.{IsSameOutcome}
use Rattle.strc_elab_dataflow.specs.Split.{Parts}
use Rattle.strc_fuse.specs.Units.{round_units}
use Rattle.strc_fiss.specs.Laws.{AreOwn}
use Rattle.strc_fiss.specs.Ways.{fission_of}
use Rattle.strc_stage_plan.specs.SplitLaws.{split_order}
use Rattle.strc_stage_plan.specs.Runs.{graph_before, graph_after, parts_of, dealt_from}

-- an outcome is an answer of a tree's equations at the counts and orders of a schedule, but for the
-- names of nodes and parts
pub record ComesToAnswer (tree : trees.Stream NodeCode) (schedule : ScheduleParts)
    (input : List ℤ) (rounds : ℕ) (parts : Parts) (outcome : Outcome Cause Word) : Type 0 where
  pub answer : Outcome Cause Word
  pub is_answer : IsAnswer node_meaning tree input (firing_count (startup_order schedule))
      (firing_count (round_order schedule)) (startup_order schedule) (round_order schedule)
      rounds answer
  pub same : IsSameOutcome parts answer outcome

-- After start-up the rounds of a program's graph after fission come to the answer.
abbrev pub FissionKeepsAnswers : Type 0
FissionKeepsAnswers =
    (tree : trees.Stream NodeCode) (old : Graph) (schedule : ScheduleParts) (round : List ℕ)
    (ways : ℕ) (input : List ℤ) (rounds : ℕ) (started : Queues)
    → IsProgram tree old → IsGraph old → IsPlanned old schedule → AreKnown old
    → AreOwn (fission_of old round ways) (round_units schedule.round)
    → items_read old.nodes (counts_at schedule rounds) ≤ length input
    → fifo_go node_meaning (graph_before tree old schedule round ways) (startup_order schedule)
    (fifo_at_first node_meaning (graph_before tree old schedule round ways) input)
    ≡ FifoWent started
    → ComesToAnswer tree schedule input rounds (parts_of tree old schedule round ways)
    (fifo_rounds node_meaning (graph_after tree old schedule round ways) input
    (split_order old schedule round ways) rounds 0
    (dealt_from tree old schedule round ways started))
