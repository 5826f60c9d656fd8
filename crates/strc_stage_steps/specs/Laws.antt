-- What a ring of stages is worth.
use Rattle.std.specs.Prelude.{◌≡◌, ℕ, suc, ◌<◌, ◌≤◌, true, List, length, map, Option}
use Rattle.std.specs.Prelude.{Some, None, ◌∷◌, slice_get}
use Rattle.strc_work_meaning.specs.declared.fault.Cause.{Cause}
use Rattle.strc_work_meaning.specs.declared.word.Word.{Word}
use Rattle.strc_elab_dataflow.specs.Answer.{Outcome, Outcome.Done, Outcome.RoundFault}
use Rattle.strc_elab_dataflow.specs.Flat as flat
use Rattle.strc_elab_dataflow.specs.Node.{ByPort}
use Rattle.strc_elab_dataflow.specs.Queues.{fifo_go, fifo_rounds}
use Rattle.strc_elab_graph.specs.Graphs.{NodeCode}
use Rattle.strc_elab_graph.specs.Meaning.{node_meaning}
use Rattle.strc_elab_graph.specs.Tapes.{tape_nodes}
use Rattle.strc_sched_laws.specs.ByChannels.{IsByChannels}
use Rattle.strc_sched_laws.specs.Fits.{Queues}
use Rattle.strc_sched_laws.specs.Machine.{CircuitView, MachineView}
use Rattle.strc_sched_laws.specs.Machine.{Ending, Ended, FaultedIn, rounds_run, words_at}
use Rattle.strc_sched_laws.specs.RingAnswer.{Tells}
use Rattle.strc_sched_laws.specs.Simulation.{Simulates}
use Rattle.strc_stage_core.specs.Events.{is_over, before}
use Rattle.strc_stage_core.specs.Parts.{AreJoined}
use Rattle.strc_stage_core.specs.States.{Start, Core, IsState}
use Rattle.strc_sched_outcome.specs.declared.stop.Stop.{Stop}
use Rattle.strc_sched_outcome.specs.declared.stop.Stop.TheVariants as stop
use Rattle.strc_stage_core.specs.Parcels.{Load, ParcelView}
use Rattle.strc_stage_plan.specs.Cuts.{segment_of}
use Rattle.strc_elab_dataflow.specs.Chains.{meaning_from, graph_from, staging_from}
use Rattle.strc_elab_dataflow.specs.RestartRounds.{RepeatsByRounds, IsBalancedByRounds}
use Rattle.strc_elab_dataflow.specs.Schedules.{fired_in}
use Rattle.strc_elab_dataflow.specs.Parcels.{HasMoved, IsWorking}
use Rattle.strc_elab_dataflow.specs.Stages.{entered}
use Rattle.strc_elab_dataflow.specs.Staging.{IsStaging}
use Rattle.strc_stage_steps.specs.Steps.{StageState, Gathered, stage_work, stage_run}
use Rattle.strc_stage_steps.specs.Beginnings.{IsBeginning}
use Rattle.strc_stage_steps.specs.Carrying.{AreInRounds, CollectorPart, StagePart}
use Rattle.strc_stage_steps.specs.CrossingBlocks.{FitsBefore}
use Rattle.strc_stage_steps.specs.Holding.{IsHeld, IsLoaded, StepsAlike}
use Rattle.strc_stage_steps.specs.Runnings.{Running, resumed, CanGoOn, HasRoom, IsRunning}

-- ---- rounds that go on from a state

-- Where rates repeat round by round from the state on, and the channels balance over a round, rings
-- that have room in one round have room in each.
abbrev pub RoundsHaveRoom : Type 0
RoundsHaveRoom =
    (running : Running) (by_source : flat.Graph NodeCode) (from : Queues)
    → IsByChannels by_source running.graph
    → RepeatsByRounds node_meaning by_source (fired_in node_meaning by_source from) running.counts
    → IsBalancedByRounds node_meaning by_source (fired_in node_meaning by_source from)
    running.counts
    → HasRoom running by_source from 0
    → (round : ℕ) → HasRoom running by_source from round

-- One machine over rings that holds the state comes, round by round, to what the rounds of the
-- graph over queues come to.
abbrev pub RoundsRunAlike : Type 0
RoundsRunAlike =
    (running : Running) (by_source : flat.Graph NodeCode) (from : Queues) (rounds : ℕ)
    (circuit : CircuitView) (started : MachineView)
    → CanGoOn running by_source from rounds circuit
    → Simulates running.graph running.sizes circuit.input from started
    → Tells (length running.graph.nodes)
    (fifo_rounds node_meaning by_source circuit.input running.order rounds 0 from)
    (rounds_run circuit running.order rounds 0 started)

-- What a collector has come to is an outcome: the words of the nodes by tape; or the same fault in
-- the same round, with the words before it. Out of memory tells nothing.
abbrev pub TellsOutcome : List NodeCode → Gathered → Option Stop → Outcome Cause Word → Type 0
TellsOutcome codes total None (Done words) = total.words ≡ map words (tape_nodes codes)
TellsOutcome codes total (Some (stop.Fault node firing cause)) (RoundFault round why words) =
    (round ≡ total.rounds) × (why ≡ record { node = node; firing = firing; cause = cause })
    × (total.words ≡ map words (tape_nodes codes))
TellsOutcome codes total (Some stop.NoMemory) outcome = Unit {0}
TellsOutcome _ _ _ _ = ⊥

-- A ring of stages that is over, by whatever events, has come to the outcome of the rounds of the
-- graph over queues, from the state that the stages began with.
abbrev pub StagesRunAlike : Type 0
StagesRunAlike =
    (running : Running) (by_source : flat.Graph NodeCode) (from : Queues) (rounds : ℕ)
    (bound : (stage : ℕ) → ℕ) (last : ℕ) (circuit : CircuitView) (started : MachineView)
    (start : Start StageState Load Stop Gathered) (core : Core StageState Load Stop Gathered)
    → IsRunning running by_source from rounds bound last circuit
    → Simulates running.graph running.sizes circuit.input from started
    → IsBeginning running bound last circuit started rounds start
    → IsState stage_work start core → is_over core ≡ true
    → TellsOutcome running.graph.nodes core.collector.total core.collector.stop
    (fifo_rounds node_meaning by_source circuit.input running.order rounds 0 from)

-- In any state each parcel that waits for a stage, or for the collector, is stopped or has just
-- what is to come there in its round.
abbrev pub ParcelsFit : Type 0
ParcelsFit =
    (running : Running) (by_source : flat.Graph NodeCode) (from : Queues) (rounds : ℕ)
    (bound : (stage : ℕ) → ℕ) (last : ℕ) (circuit : CircuitView) (started : MachineView)
    (start : Start StageState Load Stop Gathered) (core : Core StageState Load Stop Gathered)
    → IsRunning running by_source from rounds bound last circuit
    → Simulates running.graph running.sizes circuit.input from started
    → IsBeginning running bound last circuit started rounds start
    → IsState stage_work start core
    → (actor : ℕ) (parcel : ParcelView) (rest : List ParcelView) → actor ≤ suc last
    → slice_get core.links (before (length core.stages) actor) ≡ Some (parcel ∷ rest)
    → parcel.stop ≡ None
    → FitsBefore running bound last actor parcel.load

-- In any state, whatever its stages and its collector have received, sent and hold: parcels carry
-- what the rounds of the equations give, and stages hold it. The equations are those of the graph
-- restarted at the state.
abbrev pub RingsAreInRounds : Type 0
RingsAreInRounds =
    (running : Running) (by_source : flat.Graph NodeCode) (from : Queues) (rounds : ℕ)
    (bound : (stage : ℕ) → ℕ) (last : ℕ) (circuit : CircuitView) (started : MachineView)
    (inputs : ℕ → ℕ → ByPort) (start : Start StageState Load Stop Gathered)
    (parts : List StagePart) (end : CollectorPart)
    → IsRunning running by_source from rounds bound last circuit
    → Simulates running.graph running.sizes circuit.input from started
    → IsStaging (staging_from (resumed running by_source from rounds bound last) inputs)
    → IsBeginning running bound last circuit started rounds start
    → AreJoined stage_work start parts end
    → AreInRounds running from bound last circuit
    (staging_from (resumed running by_source from rounds bound last) inputs) start.free parts end

-- One step of a stage over rings. Where it holds the state of the generic stage before a round, and
-- a load holds what has moved so far in the round, its order comes to what that of the generic
-- stage comes to; and it holds what that leaves, and sends on what that sends. The generic stages
-- are those of the graph restarted at the state.
abbrev pub StageStepsAlike : Type 0
StageStepsAlike =
    (running : Running) (by_source : flat.Graph NodeCode) (from : Queues) (rounds : ℕ)
    (bound : (stage : ℕ) → ℕ) (last : ℕ) (circuit : CircuitView) (inputs : ℕ → ℕ → ByPort)
    (stage round : ℕ) (now : Queues) (blocks : ℕ → ByPort) (words : ℕ → List Word)
    (state : StageState) (load : Load)
    (held : IsHeld running from bound last circuit stage state now)
    → IsRunning running by_source from rounds bound last circuit
    → IsStaging (staging_from (resumed running by_source from rounds bound last) inputs)
    → stage < suc last → round < rounds
    → IsWorking (staging_from (resumed running by_source from rounds bound last) inputs) stage
    round now
    → HasMoved (staging_from (resumed running by_source from rounds bound last) inputs) stage
    round blocks words
    → IsLoaded running bound last load blocks words
    → StepsAlike running from bound last circuit
    (staging_from (resumed running by_source from rounds bound last) inputs) stage state load
    blocks words
    (fifo_go (meaning_from (resumed running by_source from rounds bound last))
    (graph_from (resumed running by_source from rounds bound last))
    (segment_of bound running.order stage)
    (entered (staging_from (resumed running by_source from rounds bound last) inputs) stage now
    blocks))
    (stage_run state load held.machine)

-- ---- how a run ends

-- The words of each tape are those of its node.
abbrev pub HasTapes : List NodeCode → (tapes words : List (List Word)) → Type 0
HasTapes codes tapes words = tapes ≡ map (words_at words) (tape_nodes codes)

-- What a collector has come to is how a run ends; out of memory tells nothing.
abbrev pub TellsEnding : List NodeCode → Gathered → Option Stop → Ending → Type 0
TellsEnding codes total None (Ended words) = HasTapes codes total.words words
TellsEnding codes total (Some (stop.Fault node firing cause)) (FaultedIn round at number why words)
    = (round ≡ total.rounds) × (at ≡ node) × (number ≡ firing) × (why ≡ cause)
    × HasTapes codes total.words words
TellsEnding codes total (Some stop.NoMemory) ending = Unit {0}
TellsEnding _ _ _ _ = ⊥

-- An ending of so many nodes that is an outcome is what tells the outcome.
abbrev pub OutcomesTellEndings : Type 0
OutcomesTellEndings =
    (codes : List NodeCode) (total : Gathered) (why : Option Stop) (outcome : Outcome Cause Word)
    (ending : Ending)
    → Tells (length codes) outcome ending → TellsOutcome codes total why outcome
    → TellsEnding codes total why ending
