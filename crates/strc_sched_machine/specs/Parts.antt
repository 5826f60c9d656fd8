-- A machine of a part of a graph's nodes, and what is left of the one that it is taken out of.
use Rattle.std.specs.Prelude.{◌≡◌, ℕ, suc, ◌<◌, ◌≤◌, Bool, ◌&&◌, not, ℤ}
use Rattle.std.specs.Prelude.{if◌then◌else◌, List, [], ◌∷◌, Some, length}
use Rattle.std.specs.Prelude.{replicate, slice_get, slice_index, slice_index_or}
use Rattle.circular_buffer.specs.Buffer.{buffer}
use Rattle.strc_elab_graph.specs.Graphs.{Graph, Channel, NodeCode}
use Rattle.strc_elab_graph.specs.declared.graph.Channel as declared
use Rattle.strc_sched_laws.specs.Circuits.{IsCircuit}
use Rattle.strc_sched_laws.specs.Machine.{CircuitView, MachineView}
use Rattle.strc_sched_laws.specs.Rings.{Ring, ring_at}
use Rattle.strc_sched_rings.specs.Parts.{IsOutside, is_within}
use Rattle.strc_sched_machine.specs.Actors.{IsActorOf}
use Rattle.strc_sched_machine.specs.Running.{IsMachine, words_of}
use Rattle.strc_sched_machine.specs.declared.actor.Actor.{Actor}
use Rattle.strc_sched_machine.specs.declared.machine.Machine.{Machine}

-- whether a channel ends at one
abbrev pub ends_within : (first next : ℕ) → declared.Channel → Bool
ends_within first next channel = is_within first next channel.target.node

-- a machine has what the nodes from one on keep, and a ring for each channel
pub record HoldsFrom (graph : Graph) (first : ℕ) (machine : Machine) : Type 0 where
  pub actors : length machine.actors.items ≡ length graph.nodes
  pub kept : (node : ℕ) (code : NodeCode) (actor : Actor) → first ≤ node
      → slice_get graph.nodes node ≡ Some code
      → slice_get machine.actors.items node ≡ Some actor → IsActorOf code actor
  pub fired : length machine.fired.items ≡ length graph.nodes
  pub rings : length machine.rings.items ≡ length graph.channels

-- a machine of a whole graph has what all of its nodes keep
abbrev pub WholeMachinesHold : Type 0
WholeMachinesHold = (graph : Graph) (circuit : CircuitView) (machine : Machine)
    → IsCircuit graph circuit → IsMachine circuit machine
    → length machine.rings.items ≡ length graph.channels → HoldsFrom graph 0 machine

-- the values of a node's fields
abbrev pub fields_at : MachineView → (node : ℕ) → List ℤ
fields_at machine node = slice_index_or machine.fields node []

-- a part has what its nodes keep, how often they have fired, and the rings of the channels that end
-- at them, as before; a channel that begins at one of them and ends at none has an empty ring of
-- the room that is given for it, and each other channel one that has no room; there are no words
pub record IsPart (graph : Graph) (first next : ℕ) (rooms : List ℕ) (before part : MachineView)
    : Type 0 where
  pub fields : (node : ℕ) → first ≤ node → node < next
      → fields_at part node ≡ fields_at before node
  pub fired : (node : ℕ) → first ≤ node → node < next
      → slice_index part.fired node ≡ slice_index before.fired node
  pub passive : (node : ℕ) → IsOutside first next node → fields_at part node ≡ []
  pub unfired : (node : ℕ) → IsOutside first next node → slice_index part.fired node ≡ 0
  pub ended : (number : ℕ) (channel : Channel) → slice_get graph.channels number ≡ Some channel
      → first ≤ channel.target.node → channel.target.node < next
      → ring_at part.rings number ≡ ring_at before.rings number
  pub begun : (number : ℕ) (channel : Channel) → slice_get graph.channels number ≡ Some channel
      → IsOutside first next channel.target.node
      → first ≤ channel.source.node → channel.source.node < next
      → ring_at part.rings number ≡ buffer [] (slice_index rooms number)
  pub others : (number : ℕ) (channel : Channel) → slice_get graph.channels number ≡ Some channel
      → IsOutside first next channel.target.node → IsOutside first next channel.source.node
      → ring_at part.rings number ≡ buffer [] 0
  pub words : part.words ≡ replicate (length graph.nodes) []
  pub each_fields : length part.fields ≡ length graph.nodes
  pub each_fired : length part.fired ≡ length graph.nodes
  pub each_ring : length part.rings ≡ length graph.channels

-- the rest has what the nodes from the next one on keep, how often they have fired, and the rings
-- of the channels that end at them, as before
pub record IsRest (graph : Graph) (next : ℕ) (before rest : MachineView) : Type 0 where
  pub fields : (node : ℕ) → next ≤ node → fields_at rest node ≡ fields_at before node
  pub fired : (node : ℕ) → next ≤ node
      → slice_index rest.fired node ≡ slice_index before.fired node
  pub rings : (number : ℕ) (channel : Channel) → slice_get graph.channels number ≡ Some channel
      → next ≤ channel.target.node → ring_at rest.rings number ≡ ring_at before.rings number
  pub words : rest.words ≡ before.words
  pub each_fields : length rest.fields ≡ length before.fields
  pub each_fired : length rest.fired ≡ length before.fired
  pub each_ring : length rest.rings ≡ length before.rings

-- of two lists what the one has at each marked place, and what the other has elsewhere
abbrev pub chosen : {A : Type 0} → (marks : List Bool) → (others own : List A) → List A
chosen [] others own = own
chosen (mark ∷ marks) [] own = own
chosen (mark ∷ marks) (other ∷ others) [] = []
chosen (mark ∷ marks) (other ∷ others) (item ∷ own) =
    (if mark then other else item) ∷ chosen marks others own

-- how much room the ring of a channel has that is empty at first
abbrev pub room_at : (first next : ℕ) → (rooms : List ℕ) → (number : ℕ) → Channel → ℕ
room_at first next rooms number channel =
    if is_within first next channel.source.node && not (is_within first next channel.target.node)
    then slice_index rooms number else 0

-- one for each channel; the first of these has this number
abbrev pub empty_rings : (first next : ℕ) → (rooms : List ℕ) → (number : ℕ) → List Channel
    → List Ring
empty_rings first next rooms number [] = []
empty_rings first next rooms number (channel ∷ channels) =
    buffer [] (room_at first next rooms number channel)
    ∷ empty_rings first next rooms (suc number) channels

-- marks are those of so many nodes, and of so many channels
pub record AreMarks (nodes channels : List Bool) (machine : Machine) : Type 0 where
  pub actors : length machine.actors.items ≡ length nodes
  pub fired : length machine.fired.items ≡ length nodes
  pub rings : length machine.rings.items ≡ length channels

-- a machine has what another one had for marked nodes and channels
pub record HasChosen (nodes channels : List Bool) (other before after : Machine) : Type 0 where
  pub actors : after.actors.items ≡ chosen nodes other.actors.items before.actors.items
  pub fired : after.fired.items ≡ chosen nodes other.fired.items before.fired.items
  pub rings : after.rings.items ≡ chosen channels other.rings.items before.rings.items
  pub words : words_of after.words.items ≡ words_of before.words.items
