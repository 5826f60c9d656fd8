-- What a stage does with a parcel, and a collector, as plain data: over the machine of rings.
use Rattle.std.specs.Prelude.{ℕ, suc, Option, Some, None, List, [], ◌∷◌, ◌++◌, slice_set}
use Rattle.circular_buffer.specs.Buffer.{buffer}
use Rattle.strc_work_meaning.specs.declared.word.Word.{Word}
use Rattle.strc_stage_core.specs.Actors.{Work}
use Rattle.strc_sched_outcome.specs.declared.stop.Stop.{Stop}
use Rattle.strc_sched_outcome.specs.declared.stop.Stop.TheVariants as stop
use Rattle.strc_stage_core.specs.Parcels as parcels
use Rattle.strc_stage_core.specs.Parcels.{Load, block_at, with_block, with_words, filled}
pub use Rattle.strc_stage_steps.specs.declared.crossing_items.Crossing.{Crossing}
pub use Rattle.strc_stage_steps.specs.declared.crossing_items.TapeOf.{TapeOf}
use Rattle.strc_stage_steps.specs.declared.stage.Block.{Block}
use Rattle.strc_sched_laws.specs.Machine.{CircuitView, MachineView, Progress, Went, Stopped}
use Rattle.strc_sched_laws.specs.Machine.{order_run, words_at}
use Rattle.strc_sched_laws.specs.Rings.{Ring, ring_at, items_at, given}

-- What a stage works on: its circuit and its order; the channels that come from other stages, those
-- that go to others, and its tapes; the blocks of the parcels that come to it, and how many tapes
-- these have words of; and its machine, until a step of it is stopped.
pub record StageState : Type 0 where
  pub circuit : CircuitView
  pub order : List ℕ
  pub entering : List Crossing
  pub leaving : List Crossing
  pub tapes : List TapeOf
  pub blocks : List Block
  pub tape_count : ℕ
  pub machine : Option MachineView

-- What the collector has gathered: the words of each tape, and of how many rounds.
pub record Gathered : Type 0 where
  pub words : List (List Word)
  pub rounds : ℕ

-- ---- into the rings

-- The items of a load's blocks join the rings.
abbrev pub rings_entered : List Crossing → Load → List Ring → List Ring
rings_entered [] load rings = rings
rings_entered (crossing ∷ others) load rings =
    rings_entered others load (given (Some crossing.ring) (block_at load crossing.block) rings)

-- The load without them.
abbrev pub load_entered : List Crossing → Load → Load
load_entered [] load = load
load_entered (crossing ∷ others) load =
    load_entered others (with_block load crossing.block [])

abbrev pub machine_entered : List Crossing → Load → MachineView → MachineView
machine_entered entering load machine = record {
  fields = machine.fields;
  fired = machine.fired;
  rings = rings_entered entering load machine.rings;
  words = machine.words;
}

-- ---- out of the rings

-- The items of the rings of channels that leave join their blocks.
abbrev pub load_left : List Crossing → List Ring → Load → Load
load_left [] rings load = load
load_left (crossing ∷ others) rings load =
    load_left others rings (filled load crossing.block (items_at rings (Some crossing.ring)))

-- The rings without them.
abbrev pub emptied_ring : Ring → Ring
emptied_ring ring = buffer [] ring.capacity

abbrev pub rings_left : List Crossing → List Ring → List Ring
rings_left [] rings = rings
rings_left (crossing ∷ others) rings =
    rings_left others (slice_set rings crossing.ring (emptied_ring (ring_at rings crossing.ring)))

-- ---- words

-- The words that the tapes' nodes have given become the load's.
abbrev pub load_worded : List TapeOf → List (List Word) → Load → Load
load_worded [] words load = load
load_worded (own ∷ others) words load =
    load_worded others words (with_words load own.tape (words_at words own.node))

-- And they have none then.
abbrev pub words_left : List TapeOf → List (List Word) → List (List Word)
words_left [] words = words
words_left (own ∷ others) words = words_left others (slice_set words own.node [])

abbrev pub machine_left : List Crossing → List TapeOf → MachineView → MachineView
machine_left leaving tapes machine = record {
  fields = machine.fields;
  fired = machine.fired;
  rings = rings_left leaving machine.rings;
  words = words_left tapes machine.words;
}

-- ---- a step

-- What the order comes to, with a load's items in the rings.
unfoldable pub stage_run : StageState → Load → MachineView → Progress
stage_run state load machine =
    order_run state.circuit state.order (machine_entered state.entering load machine)

abbrev pub stop_of_run : Progress → Option Stop
stop_of_run (Went machine) = None
stop_of_run (Stopped node firing cause) = Some (stop.Fault node firing cause)

abbrev pub due_stop_of : StageState → Load → Option MachineView → Option Stop
due_stop_of state load None = None
due_stop_of state load (Some machine) = stop_of_run (stage_run state load machine)

abbrev pub with_machine : StageState → Option MachineView → StageState
with_machine state machine = record {
  circuit = state.circuit;
  order = state.order;
  entering = state.entering;
  leaving = state.leaving;
  tapes = state.tapes;
  blocks = state.blocks;
  tape_count = state.tape_count;
  machine = machine;
}

-- What a run leaves in the rings, and what it sends on.
abbrev pub machine_after : StageState → Progress → Option MachineView
machine_after state (Went machine) = Some (machine_left state.leaving state.tapes machine)
machine_after state (Stopped node firing cause) = None

abbrev pub load_after : StageState → Load → Progress → Load
load_after state load (Went machine) =
    load_worded state.tapes machine.words
    (load_left state.leaving machine.rings (load_entered state.entering load))
load_after state load (Stopped node firing cause) = parcels.emptied load

-- A stopped step leaves no machine, and an empty load.
abbrev pub state_of_step : StageState → Load → Option MachineView → Option Stop → StageState
state_of_step state load (Some machine) None =
    with_machine state (machine_after state (stage_run state load machine))
state_of_step state load _ _ = with_machine state None

abbrev pub load_of_step : StageState → Load → Option MachineView → Option Stop → Load
load_of_step state load (Some machine) None =
    load_after state load (stage_run state load machine)
load_of_step state load _ _ = parcels.emptied load

-- ---- the collector

-- Each tape's words with those of the same place behind them.
abbrev pub words_joined : (words more : List (List Word)) → List (List Word)
words_joined [] more = []
words_joined (own ∷ others) [] = own ∷ others
words_joined (own ∷ others) (more ∷ rest) = (own ++ more) ∷ words_joined others rest

abbrev pub with_round : Gathered → Load → Gathered
with_round total load = record {
  words = words_joined total.words load.words;
  rounds = suc total.rounds;
}

-- What the stages of a plan and their collector do.
abbrev pub stage_work : Work StageState Load Stop Gathered
stage_work = record {
  due_stop = λ state load. due_stop_of state load state.machine;
  next_state = λ state load stop. state_of_step state load state.machine stop;
  next_load = λ state load stop. load_of_step state load state.machine stop;
  no_memory = stop.NoMemory;
  gathered = with_round;
  emptied = λ load stop. parcels.emptied load;
}
