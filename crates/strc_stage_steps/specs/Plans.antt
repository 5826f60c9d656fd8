-- Plans: their rounds are those of the graph after fission, and what these come to is the answer of
-- the stream equations, in the plan's order by the nodes before fission.
use Rattle.std.specs.Prelude.{◌≡◌, ℕ, suc, ◌<◌, ◌≤◌, ◌^◌, true, false, ℤ, List, ◌∷◌, length, map}
use Rattle.std.specs.Prelude.{Option, Some, None, slice_get}
use Rattle.strc_elab_dataflow.specs.Answer.{Outcome, IsAnswer, Outcome.StartupFault}
use Rattle.strc_elab_dataflow.specs.Flat as flat
use Rattle.strc_elab_dataflow.specs.Order as orders
use Rattle.strc_elab_dataflow.specs.Streams as trees
use Rattle.strc_work_meaning.specs.declared.fault.Cause.{Cause}
use Rattle.strc_work_meaning.specs.declared.word.Word.{Word}
use Rattle.strc_elab_graph.specs.FlatGraphs.{IsProgram}
use Rattle.strc_elab_graph.specs.Graphs.{NodeCode, IsGraph}
use Rattle.strc_elab_graph.specs.Meaning.{node_meaning}
use Rattle.strc_elab_graph.specs.Tapes.{tape_nodes}
use Rattle.strc_sched_orders.specs.Order.{firing_count}
use Rattle.strc_sched_laws.specs.Circuits.{IsCircuit, IsFirst}
use Rattle.strc_sched_laws.specs.Fits.{Queues}
use Rattle.strc_sched_laws.specs.Laws.{startup_order, round_order, counts_at}
use Rattle.strc_sched_laws.specs.Machine.{CircuitView, MachineView, Went, Stopped, order_run}
use Rattle.strc_sched_laws.specs.Machine.{rounds_run}
use Rattle.strc_sched_laws.specs.Planned.{AreKnown, items_read}
use Rattle.strc_sched_laws.specs.RingAnswer.{Tells}
use Rattle.strc_sched_laws.specs.Simulation.{Simulates}
use Rattle.strc_fuse.specs.Units.{round_units}
use Rattle.strc_stage_plan.specs.Named.{old_node}
use Rattle.strc_stage_plan.specs.Plans.{PlanParts, IsPlan, graph_of, transformed_of}
use Rattle.strc_stage_plan.specs.Bounds.{stage_bound, stage_count}
use Rattle.strc_stage_plan.specs.Cuts.{IsCutOf}
use Rattle.strc_stage_core.specs.Actors.{Stage}
use Rattle.strc_stage_core.specs.Events.{is_over, before}
use Rattle.strc_stage_core.specs.Parts.{AreJoined}
use Rattle.strc_stage_core.specs.States.{Start, Core, IsState}
use Rattle.strc_sched_outcome.specs.declared.stop.Stop.{Stop}
use Rattle.strc_stage_core.specs.Parcels.{Load, ParcelView}
use Rattle.strc_stage_steps.specs.Beginnings.{IsBeginning}
use Rattle.strc_stage_steps.specs.Blocks.{fits_stage}
use Rattle.strc_stage_steps.specs.Carrying.{CollectorPart, GoesInRounds, StagePart}
use Rattle.strc_stage_steps.specs.CrossingBlocks.{FitsBefore}
use Rattle.strc_stage_steps.specs.Laws.{TellsOutcome}
use Rattle.strc_stage_steps.specs.Runnings.{CanGoOn, Running}
use Rattle.strc_stage_steps.specs.Steps.{StageState, Gathered, stage_work}
use Rattle.strc_stage_steps.specs.Dealt.{HaveRoom, IsDealt}
use Rattle.strc_stage_steps.specs.Names.{plan_order, IsNamedSo}

-- ---- the rounds of a plan

-- each node fires as often as it is in the round's order
abbrev pub running_of : PlanParts → Running
running_of plan = record {
  graph = transformed_of plan;
  counts = orders.firing_count (round_order plan.split.schedule);
  order = round_order plan.split.schedule;
  sizes = plan.split.schedule.sizes;
}

-- bounds between the groups of the graph and the units of its round
abbrev pub IsCut : PlanParts → (bound : (stage : ℕ) → ℕ) → (stages : ℕ) → Type 0
IsCut plan = IsCutOf (transformed_of plan) (round_units plan.split.schedule.round)

abbrev pub plan_bound : PlanParts → (workers stage : ℕ) → ℕ
plan_bound plan =
    stage_bound (transformed_of plan).outer_loops (round_units plan.split.schedule.round)

abbrev pub plan_stages : PlanParts → (workers : ℕ) → ℕ
plan_stages plan =
    stage_count (transformed_of plan).outer_loops (round_units plan.split.schedule.round)

-- Groups that workers share evenly are a cut.
abbrev pub PlanBoundsAreACut : Type 0
PlanBoundsAreACut =
    (plan : PlanParts) (workers : ℕ) → IsPlan plan → 0 < workers
    → 0 < length (graph_of plan).nodes
    → (0 < plan_stages plan workers)
    × IsCut plan (plan_bound plan workers) (plan_stages plan workers)

-- how many items of the program's input start-up and so many rounds read
abbrev pub need_of : PlanParts → (rounds : ℕ) → ℕ
need_of plan rounds = items_read (graph_of plan).nodes (counts_at plan.schedule rounds)

-- ---- start-up

-- A plan, and the circuit of its graph before fission, with this input.
pub record IsReadyFor (plan : PlanParts) (input : List ℤ) (old : CircuitView) : Type 0 where
  pub is : IsPlan plan
  pub graph : IsGraph (graph_of plan)
  pub known : AreKnown (graph_of plan)
  pub wired : IsCircuit (graph_of plan) old
  pub reads_it : old.input ≡ input

-- An input suffices for so many rounds of a plan.
pub record Suffices (plan : PlanParts) (input : List ℤ) (rounds : ℕ) : Type 0 where
  pub few : rounds < 2 ^ 32
  pub supplied : need_of plan rounds ≤ length input

-- Start-up went to its end, and what it left is dealt out to the machine of the graph after
-- fission, where there is room for it; its circuit has the same input.
pub record HasStarted (plan : PlanParts) (input : List ℤ) (old : CircuitView)
    (circuit : CircuitView) (started : MachineView) : Type 0 where
  pub first : MachineView
  pub is_first : IsFirst (graph_of plan) plan.schedule.sizes first
  pub left : MachineView
  pub went : order_run old (startup_order plan.schedule) first ≡ Went left
  pub circuit_is : IsCircuit (transformed_of plan) circuit
  pub input_is : circuit.input ≡ input
  pub dealt : HaveRoom old (transformed_of plan) plan.split.origins plan.split.schedule.sizes left
      → IsDealt old (transformed_of plan) plan.split.origins plan.split.schedule.sizes left started

-- ---- room

-- The rounds go on from a state that the machine holds: in each of them every firing finds what it
-- looks at, and between any two firings no channel has more items than its ring has room for.
pub record GoesOn (plan : PlanParts) (rounds : ℕ) (circuit : CircuitView) (started : MachineView)
    : Type 0 where
  pub by_source : flat.Graph NodeCode
  pub from : Queues
  pub holds : Simulates (transformed_of plan) plan.split.schedule.sizes circuit.input from started
  pub rounds_go_on : CanGoOn (running_of plan) by_source from rounds circuit

-- So do those of each plan whose start-up went to its end.
abbrev pub PlanRingsHaveRoom : Type 0
PlanRingsHaveRoom =
    (tree : trees.Stream NodeCode) (plan : PlanParts) (input : List ℤ) (rounds : ℕ)
    (old circuit : CircuitView) (started : MachineView)
    → IsProgram tree (graph_of plan)
    → IsReadyFor plan input old → Suffices plan input rounds
    → HasStarted plan input old circuit started
    → GoesOn plan rounds circuit started

-- And in any state of a ring of its stages each parcel that waits for a stage, or for the
-- collector, is stopped or has just what is to come there in its round.
abbrev pub PlanParcelsFit : Type 0
PlanParcelsFit =
    (tree : trees.Stream NodeCode) (plan : PlanParts) (input : List ℤ) (rounds : ℕ)
    (old circuit : CircuitView) (started : MachineView) (bound : (stage : ℕ) → ℕ) (last : ℕ)
    (start : Start StageState Load Stop Gathered) (core : Core StageState Load Stop Gathered)
    → IsProgram tree (graph_of plan)
    → IsReadyFor plan input old → Suffices plan input rounds
    → HasStarted plan input old circuit started
    → IsCut plan bound (suc last)
    → IsBeginning (running_of plan) bound last circuit started rounds start
    → IsState stage_work start core
    → (actor : ℕ) (parcel : ParcelView) (rest : List ParcelView) → actor ≤ suc last
    → slice_get core.links (before (length core.stages) actor) ≡ Some (parcel ∷ rest)
    → parcel.stop ≡ None
    → FitsBefore (running_of plan) bound last actor parcel.load

-- So each parcel that a stage can take fits it.
abbrev pub PlanParcelsFitStages : Type 0
PlanParcelsFitStages =
    (tree : trees.Stream NodeCode) (plan : PlanParts) (input : List ℤ) (rounds : ℕ)
    (old circuit : CircuitView) (started : MachineView) (bound : (stage : ℕ) → ℕ) (last : ℕ)
    (start : Start StageState Load Stop Gathered) (core : Core StageState Load Stop Gathered)
    → IsProgram tree (graph_of plan)
    → IsReadyFor plan input old → Suffices plan input rounds
    → HasStarted plan input old circuit started
    → IsCut plan bound (suc last)
    → IsBeginning (running_of plan) bound last circuit started rounds start
    → IsState stage_work start core
    → (number : ℕ) (stage : Stage StageState Stop) (parcel : ParcelView) (rest : List ParcelView)
    → slice_get core.stages number ≡ Some stage → stage.finished ≡ false
    → slice_get core.links (before (length core.stages) number) ≡ Some (parcel ∷ rest)
    → fits_stage stage parcel ≡ true

-- And whatever its stages and its collector have received, sent and hold, parcels carry what the
-- rounds of the equations give, and stages hold it.
abbrev pub PlanRingsAreInRounds : Type 0
PlanRingsAreInRounds =
    (tree : trees.Stream NodeCode) (plan : PlanParts) (input : List ℤ) (rounds : ℕ)
    (old circuit : CircuitView) (started : MachineView) (bound : (stage : ℕ) → ℕ) (last : ℕ)
    (start : Start StageState Load Stop Gathered) (parts : List StagePart) (end : CollectorPart)
    → IsProgram tree (graph_of plan)
    → IsReadyFor plan input old → Suffices plan input rounds
    → HasStarted plan input old circuit started
    → IsCut plan bound (suc last)
    → IsBeginning (running_of plan) bound last circuit started rounds start
    → AreJoined stage_work start parts end
    → GoesInRounds (running_of plan) rounds bound last circuit started start.free parts end

-- ---- what it comes to

-- an outcome is the answer of a tree's stream equations, at a plan's counts and in its orders
abbrev pub IsPlanAnswer : (tree : trees.Stream NodeCode) → PlanParts → (input : List ℤ)
    → (rounds : ℕ) → Outcome Cause Word → Type 0
IsPlanAnswer tree plan input rounds answer =
    IsAnswer node_meaning tree input (firing_count (startup_order plan.schedule))
    (firing_count (round_order plan.schedule)) (startup_order plan.schedule) (plan_order plan)
    rounds answer

-- or it is, but for the names of nodes and firings
pub record ComesToAnswer (tree : trees.Stream NodeCode) (plan : PlanParts) (input : List ℤ)
    (rounds : ℕ) (outcome : Outcome Cause Word) : Type 0 where
  pub answer : Outcome Cause Word
  pub is_answer : IsPlanAnswer tree plan input rounds answer
  pub named : IsNamedSo plan answer outcome

-- what a collector has come to tells such an outcome
pub record TellsPlanAnswer (tree : trees.Stream NodeCode) (plan : PlanParts) (input : List ℤ)
    (rounds : ℕ) (total : Gathered) (why : Option Stop) : Type 0 where
  pub outcome : Outcome Cause Word
  pub tells : TellsOutcome (transformed_of plan).nodes total why outcome
  pub comes : ComesToAnswer tree plan input rounds outcome

-- A ring of a plan's stages that is over, by whatever events, has come to the answer of whatever
-- program the plan's graph is.
abbrev pub PlanRingsAnswer : Type 0
PlanRingsAnswer =
    (tree : trees.Stream NodeCode) (plan : PlanParts) (input : List ℤ) (rounds : ℕ)
    (old circuit : CircuitView) (started : MachineView) (bound : (stage : ℕ) → ℕ) (last : ℕ)
    (start : Start StageState Load Stop Gathered) (core : Core StageState Load Stop Gathered)
    → IsProgram tree (graph_of plan)
    → IsReadyFor plan input old → Suffices plan input rounds
    → HasStarted plan input old circuit started
    → IsCut plan bound (suc last)
    → IsBeginning (running_of plan) bound last circuit started rounds start
    → IsState stage_work start core → is_over core ≡ true
    → TellsPlanAnswer tree plan input rounds core.collector.total core.collector.stop

-- So has one machine that runs all rounds.
pub record RoundsTellAnswer (tree : trees.Stream NodeCode) (plan : PlanParts) (input : List ℤ)
    (rounds : ℕ) (circuit : CircuitView) (started : MachineView) : Type 0 where
  pub outcome : Outcome Cause Word
  pub tells : Tells (length (transformed_of plan).nodes) outcome
      (rounds_run circuit (round_order plan.split.schedule) rounds 0 started)
  pub comes : ComesToAnswer tree plan input rounds outcome

abbrev pub PlanRoundsAnswer : Type 0
PlanRoundsAnswer =
    (tree : trees.Stream NodeCode) (plan : PlanParts) (input : List ℤ) (rounds : ℕ)
    (old circuit : CircuitView) (started : MachineView)
    → IsProgram tree (graph_of plan)
    → IsReadyFor plan input old → Suffices plan input rounds
    → HasStarted plan input old circuit started
    → RoundsTellAnswer tree plan input rounds circuit started

-- A fault of start-up is the answer.
abbrev pub PlanFaultsAnswer : Type 0
PlanFaultsAnswer =
    (tree : trees.Stream NodeCode) (plan : PlanParts) (input : List ℤ) (rounds : ℕ)
    (old : CircuitView) (first : MachineView) (node firing : ℕ) (cause : Cause)
    → IsProgram tree (graph_of plan)
    → IsReadyFor plan input old → Suffices plan input rounds
    → IsFirst (graph_of plan) plan.schedule.sizes first
    → order_run old (startup_order plan.schedule) first ≡ Stopped node firing cause
    → IsPlanAnswer tree plan input rounds
    (StartupFault (record { node = node; firing = firing; cause = cause }))

-- The tapes of the graph after fission are those of the nodes before it.
abbrev pub PlansKeepTapes : Type 0
PlansKeepTapes =
    (plan : PlanParts) → IsPlan plan
    → map (old_node plan.split.origins) (tape_nodes (transformed_of plan).nodes)
    ≡ tape_nodes (graph_of plan).nodes
