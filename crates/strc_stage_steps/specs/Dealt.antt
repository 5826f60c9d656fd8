-- The state of a machine, dealt out to the machine of the graph after fission.
use Rattle.std.specs.Prelude.{◌≡◌, ℕ, ◌≤◌, ℤ, true, false, List, [], length, Some, slice_get}
use Rattle.std.specs.Prelude.{slice_index}
use Rattle.circular_buffer.specs.Buffer.{buffer}
use Rattle.strc_elab_graph.specs.Graphs.{NodeCode, Graph, Channel}
use Rattle.strc_elab_graph.specs.Meaning.{node_fields}
use Rattle.strc_elab_graph.specs.Rates.{fires_by_rounds}
use Rattle.strc_sched_laws.specs.Machine.{CircuitView, MachineView}
use Rattle.strc_sched_laws.specs.Rings.{at_port, items_at, ring_at}
use Rattle.strc_sched_laws.specs.Wiring.{ports_at}
use Rattle.strc_sched_machine.specs.Keeping.{Kept, kept_at}
use Rattle.strc_fiss.specs.declared.split.Origin.{Origin}
use Rattle.strc_stage_plan.specs.Named.{old_node}
use Rattle.strc_stage_steps.specs.Origins.{is_inside}

-- what a node has that starts
abbrev pub starting : NodeCode → Kept
starting code = record { fields = node_fields code; fired = 0; words = [] }

-- the items that wait at a port of an old node
abbrev pub waiting_at : CircuitView → MachineView → (node port : ℕ) → List ℤ
waiting_at circuit machine node port =
    items_at machine.rings (at_port (ports_at circuit.inputs node) port)

module _ (circuit : CircuitView) (graph : Graph) (origins : List Origin) (sizes : List ℕ)
    (before : MachineView) where
  -- what waited at a port of a node has room in the channel that ends there after fission
  abbrev pub HaveRoom : Type 0
  HaveRoom = (number : ℕ) (channel : Channel) (code : NodeCode)
      → slice_get graph.channels number ≡ Some channel
      → slice_get graph.nodes channel.target.node ≡ Some code → is_inside code ≡ false
      → length (waiting_at circuit before (old_node origins channel.target.node)
      channel.target.port) ≤ slice_index sizes number

  -- A node that isn't split has what it had; a part of one that is starts. A channel that ends at a
  -- node's first part has what waited there; one between parts has nothing. Each ring has the room
  -- that is given for it.
  pub record IsDealt (after : MachineView) : Type 0 where
    pub each_fields : length after.fields ≡ length graph.nodes
    pub each_fired : length after.fired ≡ length graph.nodes
    pub each_words : length after.words ≡ length graph.nodes
    pub each_ring : length after.rings ≡ length graph.channels
    pub whole : (number : ℕ) (code : NodeCode) → slice_get graph.nodes number ≡ Some code
        → fires_by_rounds code ≡ false
        → kept_at after number ≡ kept_at before (old_node origins number)
    pub parts : (number : ℕ) (code : NodeCode) → slice_get graph.nodes number ≡ Some code
        → fires_by_rounds code ≡ true → kept_at after number ≡ starting code
    pub waiting : (number : ℕ) (channel : Channel) (code : NodeCode)
        → slice_get graph.channels number ≡ Some channel
        → slice_get graph.nodes channel.target.node ≡ Some code → is_inside code ≡ false
        → ring_at after.rings number
        ≡ buffer (waiting_at circuit before (old_node origins channel.target.node)
        channel.target.port) (slice_index sizes number)
    pub inside : (number : ℕ) (channel : Channel) (code : NodeCode)
        → slice_get graph.channels number ≡ Some channel
        → slice_get graph.nodes channel.target.node ≡ Some code → is_inside code ≡ true
        → ring_at after.rings number ≡ buffer [] (slice_index sizes number)
