-- Fusion of the round after fission, and the answer that its rounds come to.
use Rattle.std.specs.Prelude.{◌≡◌, ℕ, ◌≤◌, Bool, ◌&&◌, not, ℤ, List, length}
use Rattle.strc_elab_dataflow.specs.Answer.{Outcome, IsAnswer}
use Rattle.strc_elab_dataflow.specs.Order.{IsSchedule}
use Rattle.strc_elab_dataflow.specs.Queues.{FifoProgress.FifoWent, fifo_go, fifo_at_first}
use Rattle.strc_elab_dataflow.specs.Queues.{fifo_rounds}
use Rattle.strc_elab_dataflow.specs.Streams as trees
use Rattle.strc_work_meaning.specs.declared.fault.Cause.{Cause}
use Rattle.strc_work_meaning.specs.declared.word.Word.{Word}
use Rattle.strc_elab_graph.specs.Graphs.{NodeCode, Graph, IsGraph}
use Rattle.strc_elab_graph.specs.FlatGraphs.{IsProgram}
use Rattle.strc_elab_graph.specs.Meaning.{node_meaning}
use Rattle.strc_elab_graph.specs.declared.graph.Fission.{Fission}
use Rattle.strc_balance.specs.Balance.{count_at}
use Rattle.strc_startup.specs.Rates.{rates_of}
use Rattle.strc_sched_orders.specs.Order.{firing_count}
use Rattle.strc_sched_orders.specs.Schedules.{ScheduleParts}
use Rattle.strc_sched_laws.specs.Fits.{Queues}
use Rattle.strc_sched_laws.specs.Laws.{startup_order, round_order, counts_at}
use Rattle.strc_sched_laws.specs.Planned.{IsPlanned, AreKnown, items_read}
use Rattle.strc_elab_dataflow.specs.FusedUnits.{RoundUnit, AreFused, firings_of}
use Rattle.strc_elab_dataflow.specs.Runs.{IsSameOutcome}
use Rattle.strc_elab_dataflow.specs.Split.{Parts}
use Rattle.strc_fuse.specs.Units.{is_free, round_units, ArePlaced}
use Rattle.strc_fiss.specs.Laws.{AreOwn}
use Rattle.strc_fiss.specs.Numbers.{is_dealt}
use Rattle.strc_fiss.specs.Units.{split_units}
use Rattle.strc_fiss.specs.Ways.{fission_of}
use Rattle.strc_stage_plan.specs.SplitLaws.{new_graph}
use Rattle.strc_stage_plan.specs.Named.{new_origins, old_firings}
use Rattle.strc_stage_plan.specs.Runs.{graph_before, graph_after, parts_of, dealt_from}

-- whether a node may be fused and isn't split
abbrev pub stays_whole : Graph → (share : ℕ → Fission) → (node : ℕ) → Bool
stays_whole old share node = is_free old node && not (is_dealt (share node))

-- fused units are the fission of units before it that were fused, of which none is of nodes that
-- are split
pub record IsFissionOfFused (old : Graph) (share : ℕ → Fission) (limit : ℕ)
    (units fused : List RoundUnit) : Type 0 where
  pub before : List RoundUnit
  pub is_fused : AreFused (stays_whole old share) limit units before
  pub own : AreOwn share before
  pub after : fused ≡ split_units share before

-- Fusion of the units after fission comes to the fission of fused units.
abbrev pub FusionFollowsFission : Type 0
FusionFollowsFission =
    (old : Graph) (schedule : ScheduleParts) (round : List ℕ) (ways limit : ℕ)
    (units fused : List RoundUnit)
    → IsGraph old → AreOwn (fission_of old round ways) units
    → AreFused (is_free (new_graph old schedule round ways)) limit
    (split_units (fission_of old round ways) units) fused
    → IsFissionOfFused old (fission_of old round ways) limit units fused

-- an outcome is the answer of a tree's equations, where this is the order of a round's firings, in
-- which each finds its windows, but for the names of nodes and parts
pub record ComesToAnswerIn (order : List ℕ) (tree : trees.Stream NodeCode)
    (schedule : ScheduleParts) (input : List ℤ) (rounds : ℕ) (parts : Parts)
    (outcome : Outcome Cause Word) : Type 0 where
  pub finds : IsSchedule node_meaning (trees.flat tree) input
      (firing_count (startup_order schedule)) (firing_count (round_order schedule))
      (startup_order schedule) order rounds
  pub answer : Outcome Cause Word
  pub is_answer : IsAnswer node_meaning tree input (firing_count (startup_order schedule))
      (firing_count (round_order schedule)) (startup_order schedule) order rounds answer
  pub same : IsSameOutcome parts answer outcome

-- After start-up the fused rounds of a program's graph after fission come to the answer by the
-- order of their firings, where the units that may be fused are placed in the round before.
abbrev pub FusedFissionKeepsAnswers : Type 0
FusedFissionKeepsAnswers =
    (tree : trees.Stream NodeCode) (old : Graph) (schedule : ScheduleParts) (round : List ℕ)
    (ways : ℕ) (input : List ℤ) (rounds : ℕ) (started : Queues) (limit : ℕ)
    (fused : List RoundUnit)
    → IsProgram tree old → IsGraph old → (planned : IsPlanned old schedule) → AreKnown old
    → AreOwn (fission_of old round ways) (round_units schedule.round)
    → ArePlaced (rates_of old) (count_at planned.round) (is_free old)
    (round_units schedule.round)
    → AreFused (is_free (new_graph old schedule round ways)) limit
    (split_units (fission_of old round ways) (round_units schedule.round)) fused
    → items_read old.nodes (counts_at schedule rounds) ≤ length input
    → fifo_go node_meaning (graph_before tree old schedule round ways) (startup_order schedule)
    (fifo_at_first node_meaning (graph_before tree old schedule round ways) input)
    ≡ FifoWent started
    → ComesToAnswerIn
    (old_firings (new_graph old schedule round ways).nodes (new_origins old round ways)
    (firings_of fused)) tree schedule input rounds (parts_of tree old schedule round ways)
    (fifo_rounds node_meaning (graph_after tree old schedule round ways) input
    (firings_of fused) rounds 0 (dealt_from tree old schedule round ways started))
