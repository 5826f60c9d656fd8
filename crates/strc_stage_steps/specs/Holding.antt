-- A stage's machine that holds the state of a generic stage, and a load that holds what has moved.
use Rattle.std.specs.Prelude.{◌≡◌, ℕ, ◌+◌, ◌<◌, Bool, true, false, ℤ, List, [], length, Some}
use Rattle.std.specs.Prelude.{slice_get}
use Rattle.std.specs.Prelude.{slice_index, slice_index_or}
use Rattle.circular_buffer.specs.Buffer.{buffer}
use Rattle.strc_work_meaning.specs.declared.fault.Cause.{Cause}
use Rattle.strc_work_meaning.specs.declared.word.Word.{Word}
use Rattle.strc_elab_dataflow.specs.Node.{ByPort}
use Rattle.strc_elab_dataflow.specs.Queues.{FifoProgress, FifoProgress.FifoWent}
use Rattle.strc_elab_dataflow.specs.Queues.{FifoProgress.FifoStopped}
use Rattle.strc_elab_graph.specs.Graphs.{NodeCode, Channel, gives_words, reads_input}
use Rattle.strc_stage_core.specs.Parcels as parcels
use Rattle.strc_stage_core.specs.Parcels.{Load, block_at}
use Rattle.strc_sched_laws.specs.Fits.{Queues}
use Rattle.strc_sched_laws.specs.Machine as machines
use Rattle.strc_sched_laws.specs.Machine.{CircuitView, MachineView, words_at}
use Rattle.strc_sched_laws.specs.Rings.{ring_at}
use Rattle.strc_sched_laws.specs.Wiring.{ports_at}
use Rattle.strc_stage_plan.specs.Cuts.{segment_of}
use Rattle.strc_elab_dataflow.specs.Restart.{Restarted, numbered_on}
use Rattle.strc_elab_dataflow.specs.Stages.{sent_blocks, sent_words}
use Rattle.strc_elab_dataflow.specs.Staging.{Staging, in_stage}
use Rattle.strc_stage_steps.specs.Beginnings.{stage_at, crosses, entering_at, leaving_at, tapes_at}
use Rattle.strc_stage_steps.specs.CrossingBlocks.{IsLoadOf, block_of, tape_of}
use Rattle.strc_stage_steps.specs.Runnings.{Running, round_pushes}
use Rattle.strc_stage_steps.specs.Steps.{StageState, with_machine, machine_after, load_after}

-- Two circuits agree on a node.
pub record AgreeAt (circuit other : CircuitView) (node : ℕ) : Type 0 where
  pub codes : slice_get other.codes node ≡ slice_get circuit.codes node
  pub inputs : ports_at other.inputs node ≡ ports_at circuit.inputs node
  pub outputs : ports_at other.outputs node ≡ ports_at circuit.outputs node
  pub input : (code : NodeCode) → slice_get circuit.codes node ≡ Some code
      → reads_input code ≡ true → other.input ≡ circuit.input

module _ (running : Running) (from : Queues) (bound : (stage : ℕ) → ℕ) (last : ℕ)
    (circuit : CircuitView) where
  abbrev pub is_at : (stage node : ℕ) → Bool
  is_at stage node = in_stage (stage_at bound last) stage node

  -- A stage between two steps: its nodes' fields are those of the generic stage, its numbers of
  -- firings go on from those of the state that rounds began with, the rings of channels that end
  -- there hold its queues, those of channels that leave are empty, and it has no words.
  pub record IsHeld (stage : ℕ) (state : StageState) (now : Queues) : Type 0 where
    pub agrees : (node : ℕ) → is_at stage node ≡ true → AgreeAt circuit state.circuit node
    pub order_is : state.order ≡ segment_of bound running.order stage
    pub entering_is : state.entering ≡ entering_at bound last stage running.graph.channels
    pub leaving_is : state.leaving ≡ leaving_at bound last stage running.graph.channels
    pub tapes_are : state.tapes ≡ tapes_at bound last stage running.graph.nodes
    pub machine : MachineView
    pub machine_is : state.machine ≡ Some machine
    pub each_fields : length machine.fields ≡ length running.graph.nodes
    pub each_fired : length machine.fired ≡ length running.graph.nodes
    pub each_ring : length machine.rings ≡ length running.graph.channels
    pub each_words : length machine.words ≡ length running.graph.nodes
    pub fields : (node : ℕ) → node < length running.graph.nodes → is_at stage node ≡ true
        → slice_index_or machine.fields node [] ≡ (now.runs node).state
    pub fired : (node : ℕ) → node < length running.graph.nodes → is_at stage node ≡ true
        → slice_index machine.fired node ≡ (from.runs node).fired + (now.runs node).fired
    pub ending : (number : ℕ) (channel : Channel)
        → slice_get running.graph.channels number ≡ Some channel
        → is_at stage channel.target.node ≡ true
        → ring_at machine.rings number ≡ buffer
        (now.queues channel.target.node channel.target.port)
        (slice_index running.sizes number)
    pub leaving : (number : ℕ) (channel : Channel)
        → slice_get running.graph.channels number ≡ Some channel
        → is_at stage channel.source.node ≡ true → is_at stage channel.target.node ≡ false
        → ring_at machine.rings number ≡ buffer [] (round_pushes running channel)
    pub words : (node : ℕ) (code : NodeCode) → slice_get running.graph.nodes node ≡ Some code
        → gives_words code ≡ true → is_at stage node ≡ true → words_at machine.words node ≡ []

-- A load has these blocks, by where channels end, and these words, by node.
pub record IsLoaded (running : Running) (bound : (stage : ℕ) → ℕ) (last : ℕ) (load : Load)
    (blocks : ℕ → ByPort) (words : ℕ → List Word) : Type 0 where
  pub shaped : IsLoadOf running bound last load
  pub blocks_are : (number : ℕ) (channel : Channel)
      → slice_get running.graph.channels number ≡ Some channel
      → crosses bound last channel ≡ true
      → block_at load (block_of bound last running.graph.channels number)
      ≡ blocks channel.target.node channel.target.port
  pub words_are : (node : ℕ) (code : NodeCode) → slice_get running.graph.nodes node ≡ Some code
      → gives_words code ≡ true
      → parcels.words_at load (tape_of running.graph.nodes node) ≡ words node

-- A step over rings went on as the generic one did, and holds what that left and sent on; or both
-- stopped at the same fault.
abbrev pub StepsAlike : Running → (from : Queues) → (bound : (stage : ℕ) → ℕ) → (last : ℕ)
    → CircuitView → Staging (Restarted NodeCode (List ℤ)) (List ℤ) Cause Word → (stage : ℕ)
    → StageState → Load → (blocks : ℕ → ByPort) → (words : ℕ → List Word)
    → FifoProgress (List ℤ) Cause Word → machines.Progress → Type 0
StepsAlike running from bound last circuit staging stage state load blocks words (FifoWent next)
    (machines.Went machine) =
    IsHeld running from bound last circuit stage
    (with_machine state (machine_after state (machines.Went machine))) next
    × IsLoaded running bound last (load_after state load (machines.Went machine))
    (sent_blocks staging stage blocks next.queues) (sent_words staging stage words next.runs)
StepsAlike running from bound last circuit staging stage state load blocks words (FifoStopped stop)
    (machines.Stopped node firing cause) =
    numbered_on from stop ≡ record { node = node; firing = firing; cause = cause }
StepsAlike _ _ _ _ _ _ _ _ _ _ _ _ _ = ⊥
