-- Plans run by batches of rounds, by one machine or by stages.
use Rattle.std.specs.Prelude.{◌≡◌, ℕ, suc, ◌+◌, ◌-◌, ◌*◌, ◌≤◌, true, ℤ, List, ◌∷◌, length, Some}
use Rattle.std.specs.Prelude.{None, slice_get, slice_index}
use Rattle.strc_elab_dataflow.specs.Answer.{Outcome}
use Rattle.strc_elab_dataflow.specs.Flat as flat
use Rattle.strc_elab_dataflow.specs.FusedUnits.{RoundUnit, firings_of}
use Rattle.strc_elab_dataflow.specs.Order as orders
use Rattle.strc_elab_dataflow.specs.Ranges.{stage_within}
use Rattle.strc_elab_dataflow.specs.Staging.{repeated}
use Rattle.strc_elab_dataflow.specs.Streams as trees
use Rattle.strc_work_meaning.specs.declared.fault.Cause.{Cause}
use Rattle.strc_work_meaning.specs.declared.word.Word.{Word}
use Rattle.strc_elab_graph.specs.FlatGraphs.{IsProgram}
use Rattle.strc_elab_graph.specs.Graphs.{NodeCode, Channel}
use Rattle.strc_sched_laws.specs.Circuits.{IsCircuit, IsFirst}
use Rattle.strc_sched_laws.specs.Fits.{Queues}
use Rattle.strc_sched_laws.specs.Laws.{startup_order, round_order}
use Rattle.strc_sched_laws.specs.Machine.{CircuitView, MachineView, Went, Ended, order_run}
use Rattle.strc_sched_laws.specs.Machine.{rounds_run}
use Rattle.strc_sched_laws.specs.RingAnswer.{Tells}
use Rattle.strc_stage_core.specs.Events.{is_over, before}
use Rattle.strc_stage_core.specs.States.{Start, Core, IsState}
use Rattle.strc_sched_outcome.specs.declared.stop.Stop.{Stop}
use Rattle.strc_stage_core.specs.Parcels.{Load, ParcelView}
use Rattle.strc_fuse.specs.Units.{round_units}
use Rattle.strc_stage_plan.specs.Cuts.{segment_of, units_within}
use Rattle.strc_stage_plan.specs.Plans.{PlanParts, graph_of, transformed_of}
use Rattle.strc_stage_steps.specs.Beginnings.{IsBeginning}
use Rattle.strc_stage_steps.specs.CrossingBlocks.{FitsBefore}
use Rattle.strc_stage_steps.specs.Dealt.{HaveRoom, IsDealt}
use Rattle.strc_stage_steps.specs.Plans.{ComesToAnswer, IsCut, IsReadyFor, Suffices}
use Rattle.strc_stage_steps.specs.Plans.{TellsPlanAnswer, running_of}
use Rattle.strc_stage_steps.specs.Runnings.{Running, round_pushes}
use Rattle.strc_stage_steps.specs.Steps.{StageState, Gathered, stage_work}
use Rattle.strc_batch_cut.specs.Picks.{AreAmong}
use Rattle.strc_batch_laws.specs.Units.{batch_units_of}
use Rattle.strc_batch_plans.specs.Batched.{Batching, EndsByBatches, GoesByBatches, in_batches}
use Rattle.strc_batch_plans.specs.Batched.{order_of}
use Rattle.strc_batch_plans.specs.Rings.{WantedAtMostMemory}

-- ---- a plan's batches

-- Batches of so many rounds of a plan, whose groups are its nodes from one bound up to the next.
abbrev pub batching_of : PlanParts → (bound : (group : ℕ) → ℕ) → (last rounds : ℕ) → Batching
batching_of plan bound last rounds = record {
  group_of = stage_within bound last;
  segment = segment_of bound (round_order plan.split.schedule);
  groups = suc last;
  rounds = rounds;
}

-- The rounds of a plan, over rings of other sizes.
abbrev pub running_in : PlanParts → (sizes : List ℕ) → Running
running_in plan sizes = record {
  graph = transformed_of plan;
  counts = orders.firing_count (round_order plan.split.schedule);
  order = round_order plan.split.schedule;
  sizes = sizes;
}

-- The size of a ring for a batch of so many rounds that has a round's size, and to which so much is
-- pushed in a round, where all of a batch's pushes can come before its pops.
abbrev pub size_across : (rounds size pushes : ℕ) → ℕ
size_across rounds size pushes = size + (rounds - 1) * pushes

-- Sizes of rings for batches: the ring of a channel within a group is at least as large as for a
-- round; from a group to another it has room for the pushes of all other rounds of a batch too.
pub record AreBatchSizes (plan : PlanParts) (bound : (group : ℕ) → ℕ) (last rounds : ℕ)
    (sizes : List ℕ) : Type 0 where
  pub within : (number : ℕ) (channel : Channel)
      → slice_get (transformed_of plan).channels number ≡ Some channel
      → stage_within bound last channel.source.node ≡ stage_within bound last channel.target.node
      → slice_index plan.split.schedule.sizes number ≤ slice_index sizes number
  pub across : (number : ℕ) (channel : Channel)
      → slice_get (transformed_of plan).channels number ≡ Some channel
      → (stage_within bound last channel.source.node ≡ stage_within bound last channel.target.node
      → ⊥)
      → size_across rounds (slice_index plan.split.schedule.sizes number)
      (round_pushes (running_of plan) channel) ≤ slice_index sizes number

-- Start-up went to its end, and what it left is dealt out to rings of these sizes, where they have
-- room for it; the circuit has the same input.
pub record HasStartedIn (plan : PlanParts) (sizes : List ℕ) (input : List ℤ) (old : CircuitView)
    (circuit : CircuitView) (started : MachineView) : Type 0 where
  pub first : MachineView
  pub is_first : IsFirst (graph_of plan) plan.schedule.sizes first
  pub left : MachineView
  pub went : order_run old (startup_order plan.schedule) first ≡ Went left
  pub circuit_is : IsCircuit (transformed_of plan) circuit
  pub input_is : circuit.input ≡ input
  pub dealt : HaveRoom old (transformed_of plan) plan.split.origins sizes left
      → IsDealt old (transformed_of plan) plan.split.origins sizes left started

-- A plan that is ready to run m rounds and n batches: its groups, the sizes of its rings, and a
-- machine after start-up.
pub record IsBatchedRun (tree : trees.Stream NodeCode) (plan : PlanParts) (input : List ℤ)
    (bound : (group : ℕ) → ℕ) (last rounds m n : ℕ) (sizes : List ℕ) (old circuit : CircuitView)
    (started : MachineView) : Type 0 where
  pub program : IsProgram tree (graph_of plan)
  pub ready : IsReadyFor plan input old
  pub enough : Suffices plan input (m + n * rounds)
  pub cut : IsCut plan bound (suc last)
  pub sizes_are : AreBatchSizes plan bound last rounds sizes
  pub has : HasStartedIn plan sizes input old circuit started

-- The machine went through m rounds one by one.
abbrev pub WentThrough : PlanParts → (m : ℕ) → CircuitView → (started later : MachineView) → Type 0
WentThrough plan m circuit started later =
    order_run circuit (repeated m (round_order plan.split.schedule)) started ≡ Went later

-- ---- room

-- The batches go on from a state that the machine holds, and in each of them rings have room.
pub record PlanGoesByBatches (plan : PlanParts) (sizes : List ℕ) (batch : Batching) (m n : ℕ)
    (circuit : CircuitView) (later : MachineView) : Type 0 where
  pub by_source : flat.Graph NodeCode
  pub from : Queues
  pub goes : GoesByBatches (running_in plan sizes) by_source from batch m n circuit later

abbrev pub PlanBatchesHaveRoom : Type 0
PlanBatchesHaveRoom =
    (tree : trees.Stream NodeCode) (plan : PlanParts) (input : List ℤ) (bound : (group : ℕ) → ℕ)
    (last rounds m n : ℕ) (sizes : List ℕ) (old circuit : CircuitView)
    (started later : MachineView)
    → IsBatchedRun tree plan input bound last rounds m n sizes old circuit started
    → WentThrough plan m circuit started later
    → PlanGoesByBatches plan sizes (batching_of plan bound last rounds) m n circuit later

-- ---- what it comes to

-- Words that a machine has come to are the answer of the stream equations for so many rounds.
pub record WordsTellAnswer (tree : trees.Stream NodeCode) (plan : PlanParts) (input : List ℤ)
    (rounds : ℕ) (words : List (List Word)) : Type 0 where
  pub outcome : Outcome Cause Word
  pub tells : Tells (length (transformed_of plan).nodes) outcome (Ended words)
  pub comes : ComesToAnswer tree plan input rounds outcome

-- Where one machine comes to the end of the batches, its words are the answer for all the rounds.
abbrev pub PlanBatchesAnswer : Type 0
PlanBatchesAnswer =
    (tree : trees.Stream NodeCode) (plan : PlanParts) (input : List ℤ) (bound : (group : ℕ) → ℕ)
    (last rounds m n : ℕ) (sizes : List ℕ) (old circuit : CircuitView)
    (started later : MachineView) (words : List (List Word))
    → IsBatchedRun tree plan input bound last rounds m n sizes old circuit started
    → WentThrough plan m circuit started later
    → rounds_run circuit (order_of (batching_of plan bound last rounds)) n 0 later ≡ Ended words
    → WordsTellAnswer tree plan input (m + n * rounds) words

-- And where a ring of stages of whole groups, a batch a step, comes to the end and nothing stopped
-- it, what its collector has is the answer for all the rounds.
abbrev pub PlanBatchRingsAnswer : Type 0
PlanBatchRingsAnswer =
    (tree : trees.Stream NodeCode) (plan : PlanParts) (input : List ℤ) (bound : (group : ℕ) → ℕ)
    (last rounds m n : ℕ) (sizes : List ℕ) (old circuit : CircuitView)
    (started later : MachineView) (wide : (stage : ℕ) → ℕ) (wide_last : ℕ)
    (start : Start StageState Load Stop Gathered) (core : Core StageState Load Stop Gathered)
    → IsBatchedRun tree plan input bound last rounds m n sizes old circuit started
    → WentThrough plan m circuit started later
    → IsCut plan wide (suc wide_last) → AreAmong wide (suc wide_last) bound (suc last)
    → IsBeginning (in_batches (running_in plan sizes) (batching_of plan bound last rounds)) wide
    wide_last circuit later n start
    → IsState stage_work start core → is_over core ≡ true → core.collector.stop ≡ None
    → TellsPlanAnswer tree plan input (m + n * rounds) core.collector.total None

-- The machine stops only at a fault of the rounds: where it comes to the end of them one by one, it
-- goes through the m rounds and comes to the end of the batches.
abbrev pub PlanRoundsEndByBatches : Type 0
PlanRoundsEndByBatches =
    (tree : trees.Stream NodeCode) (plan : PlanParts) (input : List ℤ) (bound : (group : ℕ) → ℕ)
    (last rounds m n : ℕ) (sizes : List ℕ) (old circuit : CircuitView) (started : MachineView)
    (words : List (List Word))
    → IsBatchedRun tree plan input bound last rounds m n sizes old circuit started
    → rounds_run circuit (round_order plan.split.schedule) (m + n * rounds) 0 started ≡ Ended words
    → EndsByBatches circuit (round_order plan.split.schedule)
    (order_of (batching_of plan bound last rounds)) m n started

-- And a ring of such stages stops for nothing but memory.
abbrev pub PlanBatchRingsEnd : Type 0
PlanBatchRingsEnd =
    (tree : trees.Stream NodeCode) (plan : PlanParts) (input : List ℤ) (bound : (group : ℕ) → ℕ)
    (last rounds m n : ℕ) (sizes : List ℕ) (old circuit : CircuitView)
    (started later : MachineView) (wide : (stage : ℕ) → ℕ) (wide_last : ℕ)
    (start : Start StageState Load Stop Gathered) (core : Core StageState Load Stop Gathered)
    (words : List (List Word))
    → IsBatchedRun tree plan input bound last rounds m n sizes old circuit started
    → WentThrough plan m circuit started later
    → IsCut plan wide (suc wide_last) → AreAmong wide (suc wide_last) bound (suc last)
    → IsBeginning (in_batches (running_in plan sizes) (batching_of plan bound last rounds)) wide
    wide_last circuit later n start
    → IsState stage_work start core → is_over core ≡ true
    → rounds_run circuit (round_order plan.split.schedule) (m + n * rounds) 0 started ≡ Ended words
    → WantedAtMostMemory core.collector.stop

-- ---- parcels and units

-- In any state of such a ring each parcel that waits for a stage, or for the collector, is stopped
-- or has just what is to come there in its batch.
abbrev pub PlanBatchParcelsFit : Type 0
PlanBatchParcelsFit =
    (tree : trees.Stream NodeCode) (plan : PlanParts) (input : List ℤ) (bound : (group : ℕ) → ℕ)
    (last rounds m n : ℕ) (sizes : List ℕ) (old circuit : CircuitView)
    (started later : MachineView) (wide : (stage : ℕ) → ℕ) (wide_last : ℕ)
    (start : Start StageState Load Stop Gathered) (core : Core StageState Load Stop Gathered)
    → IsBatchedRun tree plan input bound last rounds m n sizes old circuit started
    → WentThrough plan m circuit started later
    → IsCut plan wide (suc wide_last) → AreAmong wide (suc wide_last) bound (suc last)
    → IsBeginning (in_batches (running_in plan sizes) (batching_of plan bound last rounds)) wide
    wide_last circuit later n start
    → IsState stage_work start core
    → (actor : ℕ) (parcel : ParcelView) (rest : List ParcelView) → actor ≤ suc wide_last
    → slice_get core.links (before (length core.stages) actor) ≡ Some (parcel ∷ rest)
    → parcel.stop ≡ None
    → FitsBefore (in_batches (running_in plan sizes) (batching_of plan bound last rounds)) wide
    wide_last actor parcel.load

-- The units of a group of a plan's round.
abbrev pub group_units : PlanParts → (bound : (group : ℕ) → ℕ) → (group : ℕ) → List RoundUnit
group_units plan bound group =
    round_units (units_within (bound group) (bound (suc group)) plan.split.schedule.round)

-- Each group's units so many times over fire the plan's batch.
abbrev pub PlanUnitsAreBatch : Type 0
PlanUnitsAreBatch =
    (plan : PlanParts) (bound : (group : ℕ) → ℕ) (last rounds : ℕ)
    → IsCut plan bound (suc last)
    → firings_of (batch_units_of rounds (group_units plan bound) (suc last))
    ≡ order_of (batching_of plan bound last rounds)
