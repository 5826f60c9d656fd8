-- What a ring of stages begins with: a machine that rounds go on from, cut into stages.
use Rattle.std.specs.Prelude.{◌≡◌, ◌⊎◌, ℕ, suc, Bool, true, false, ◌&&◌, not, eqb, nat_lt, nat_le}
use Rattle.std.specs.Prelude.{if◌then◌else◌, List, [], ◌∷◌, length, map, Some}
use Rattle.std.specs.Prelude.{None, slice_get, slice_index, slice_index_or}
use Rattle.circular_buffer.specs.Buffer.{buffer}
use Rattle.strc_elab_graph.specs.Graphs.{NodeCode, Channel, reads_input, gives_words}
use Rattle.strc_elab_graph.specs.Tapes.{tape_nodes}
use Rattle.strc_sched_laws.specs.Machine.{CircuitView, MachineView, words_at}
use Rattle.strc_sched_laws.specs.Rings.{ring_at}
use Rattle.strc_sched_laws.specs.Wiring.{ports_at}
use Rattle.strc_stage_core.specs.Actors as actors
use Rattle.strc_stage_core.specs.States.{Start, IsStart}
use Rattle.strc_sched_outcome.specs.declared.stop.Stop.{Stop}
use Rattle.strc_sched_outcome.specs.declared.stop.Stop.TheVariants as stop
use Rattle.strc_stage_core.specs.Parcels.{Load, ParcelView, parcel, empty_load}
use Rattle.strc_elab_dataflow.specs.Ranges.{stage_within}
use Rattle.strc_stage_plan.specs.Cuts.{segment_of}
use Rattle.strc_stage_steps.specs.Runnings.{Running, round_pushes}
use Rattle.strc_stage_steps.specs.Steps.{Crossing, TapeOf, StageState, Gathered}
use Rattle.strc_stage_steps.specs.declared.stage.Block.{Block}

-- Stages whose nodes go from one bound up to the next.
module _ (bound : (stage : ℕ) → ℕ) (last : ℕ) where
  abbrev pub stage_at : (node : ℕ) → ℕ
  stage_at node = stage_within bound last node

  -- A channel's ends lie in different stages.
  abbrev pub crosses : Channel → Bool
  crosses channel = not (eqb (stage_at channel.source.node) (stage_at channel.target.node))

  -- The crossing channels that are picked, each with its block: they have a block each, in order.
  abbrev pub crossings_from : (block number : ℕ) → (picked : Channel → Bool) → List Channel
      → List Crossing
  crossings_from block number picked [] = []
  crossings_from block number picked (channel ∷ channels) =
      if crosses channel then
      (if picked channel then
      record { block = block; ring = number }
      ∷ crossings_from (suc block) (suc number) picked channels
      else crossings_from (suc block) (suc number) picked channels)
      else crossings_from block (suc number) picked channels

  abbrev pub begins_in : (stage : ℕ) → Channel → Bool
  begins_in stage channel = eqb (stage_at channel.source.node) stage

  abbrev pub ends_in : (stage : ℕ) → Channel → Bool
  ends_in stage channel = eqb (stage_at channel.target.node) stage

  abbrev pub entering_at : (stage : ℕ) → List Channel → List Crossing
  entering_at stage = crossings_from 0 0 (ends_in stage)

  abbrev pub leaving_at : (stage : ℕ) → List Channel → List Crossing
  leaving_at stage = crossings_from 0 0 (begins_in stage)

  -- A channel's items are under way before a stage: from the one after that where it begins, up to
  -- that where it ends.
  abbrev pub is_under_way : (stage : ℕ) → Channel → Bool
  is_under_way stage channel =
      nat_lt (stage_at channel.source.node) stage && nat_le stage (stage_at channel.target.node)

  -- The tapes of a stage's nodes: the first of these nodes has this number.
  abbrev pub tapes_from : (tape node stage : ℕ) → List NodeCode → List TapeOf
  tapes_from tape node stage [] = []
  tapes_from tape node stage (code ∷ codes) =
      if gives_words code then
      (if eqb (stage_at node) stage then
      record { tape = tape; node = node } ∷ tapes_from (suc tape) (suc node) stage codes
      else tapes_from (suc tape) (suc node) stage codes)
      else tapes_from tape (suc node) stage codes

  abbrev pub tapes_at : (stage : ℕ) → List NodeCode → List TapeOf
  tapes_at = tapes_from 0 0

-- The room of each block.
abbrev pub rooms_of : (crosses : Channel → Bool) → Running → List Channel → List ℕ
rooms_of crosses running [] = []
rooms_of crosses running (channel ∷ channels) =
    if crosses channel then round_pushes running channel ∷ rooms_of crosses running channels
    else rooms_of crosses running channels

-- The blocks of a parcel before a stage: each has the room of a round, and holds its items if they
-- are under way.
abbrev pub blocks_of : (crosses under_way : Channel → Bool) → Running → List Channel → List Block
blocks_of crosses under_way running [] = []
blocks_of crosses under_way running (channel ∷ channels) =
    if crosses channel then
    record { room = round_pushes running channel; held = under_way channel }
    ∷ blocks_of crosses under_way running channels
    else blocks_of crosses under_way running channels

abbrev pub blocks_before : Running → (bound : (stage : ℕ) → ℕ) → (last stage : ℕ) → List Block
blocks_before running bound last stage =
    blocks_of (crosses bound last) (is_under_way bound last stage) running running.graph.channels

module _ (running : Running) (bound : (stage : ℕ) → ℕ) (last : ℕ) (circuit : CircuitView)
    (started : MachineView) where
  abbrev pub is_own : (stage node : ℕ) → Type 0
  is_own stage node = stage_at bound last node ≡ stage

  -- A stage's circuit is as that of the whole graph, for its own nodes.
  pub record IsCircuitOf (stage : ℕ) (own : CircuitView) : Type 0 where
    pub each : length own.codes ≡ length circuit.codes
    pub codes : (node : ℕ) → is_own stage node
        → slice_get own.codes node ≡ slice_get circuit.codes node
    pub inputs : (node : ℕ) → is_own stage node
        → ports_at own.inputs node ≡ ports_at circuit.inputs node
    pub outputs : (node : ℕ) → is_own stage node
        → ports_at own.outputs node ≡ ports_at circuit.outputs node
    pub input : (node : ℕ) (code : NodeCode) → is_own stage node
        → slice_get circuit.codes node ≡ Some code → reads_input code ≡ true
        → own.input ≡ circuit.input

  -- A stage's machine has what the ring's first machine has of its own nodes, and the rings of the
  -- channels that end there; those of channels that leave are empty, with room for a round. There
  -- are no words.
  pub record IsMachineOf (stage : ℕ) (machine : MachineView) : Type 0 where
    pub each_fields : length machine.fields ≡ length running.graph.nodes
    pub each_fired : length machine.fired ≡ length running.graph.nodes
    pub each_ring : length machine.rings ≡ length running.graph.channels
    pub each_words : length machine.words ≡ length running.graph.nodes
    pub fields : (node : ℕ) → is_own stage node
        → slice_index_or machine.fields node [] ≡ slice_index_or started.fields node []
    pub fired : (node : ℕ) → is_own stage node
        → slice_index machine.fired node ≡ slice_index started.fired node
    pub ending : (number : ℕ) (channel : Channel)
        → slice_get running.graph.channels number ≡ Some channel
        → is_own stage channel.target.node
        → ring_at machine.rings number ≡ ring_at started.rings number
    pub leaving : (number : ℕ) (channel : Channel)
        → slice_get running.graph.channels number ≡ Some channel
        → is_own stage channel.source.node → ¬ is_own stage channel.target.node
        → ring_at machine.rings number ≡ buffer [] (round_pushes running channel)
    pub words : (node : ℕ) → words_at machine.words node ≡ []

  -- A stage before its first step.
  pub record IsStageOf (stage : ℕ) (state : StageState) : Type 0 where
    pub circuit_is : IsCircuitOf stage state.circuit
    pub order_is : state.order ≡ segment_of bound running.order stage
    pub entering_is : state.entering ≡ entering_at bound last stage running.graph.channels
    pub leaving_is : state.leaving ≡ leaving_at bound last stage running.graph.channels
    pub tapes_are : state.tapes ≡ tapes_at bound last stage running.graph.nodes
    pub blocks_are : state.blocks ≡ blocks_before running bound last stage
    pub tape_count_is : state.tape_count ≡ length (tape_nodes running.graph.nodes)
    pub machine : MachineView
    pub machine_is : state.machine ≡ Some machine
    pub is_machine : IsMachineOf stage machine

  -- A free parcel is empty, with room for the items of a round, or memory stopped it.
  abbrev pub IsFree : ParcelView → Type 0
  IsFree free =
      (free ≡ parcel (empty_load (rooms_of (crosses bound last) running running.graph.channels)
      (length (tape_nodes running.graph.nodes))) None false)
      ⊎ (free ≡ parcel (empty_load [] 0) (Some stop.NoMemory) false)

  -- The words that were given before, by tape.
  abbrev pub first_total : Gathered
  first_total = record {
    words = map (words_at started.words) (tape_nodes running.graph.nodes);
    rounds = 0;
  }

  -- What a ring begins with, for so many rounds: nothing has stopped. All have finished at first
  -- where there are none.
  pub record IsBeginning (rounds : ℕ) (start : Start StageState Load Stop Gathered) : Type 0 where
    pub is_start : IsStart start
    pub stages : length start.stages ≡ suc last
    pub each : (number : ℕ) (own : actors.Stage StageState Stop)
        → slice_get start.stages number ≡ Some own
        → IsStageOf number own.inner × (own.stop ≡ None)
    pub free : (number : ℕ) (own : ParcelView) → slice_get start.free number ≡ Some own
        → IsFree own
    pub rounds_are : start.collector.rounds ≡ rounds
    pub total : start.collector.total ≡ first_total
    pub no_stop : start.collector.stop ≡ None
