-- The circuit of a graph, and the machine over rings before its first firing.
use Rattle.std.specs.Prelude.{◌≡◌, ℕ, List, [], map, length, replicate}
use Rattle.strc_elab_graph.specs.Graphs.{Graph, Channel}
use Rattle.strc_elab_graph.specs.Meaning.{node_fields}
use Rattle.strc_sched_laws.specs.Machine.{CircuitView, MachineView}
use Rattle.strc_sched_laws.specs.Rings.{AreFirst}
use Rattle.strc_sched_laws.specs.Wiring.{IsWired}

-- the circuit of a graph has its nodes, and the ring of each channel at both of its ends
pub record IsCircuit (graph : Graph) (circuit : CircuitView) : Type 0 where
  pub codes : circuit.codes ≡ graph.nodes
  pub inputs : IsWired (map (λ (channel : Channel). channel.target) graph.channels) circuit.inputs
  pub outputs : IsWired (map (λ (channel : Channel). channel.source) graph.channels)
      circuit.outputs
  pub input_nodes : length circuit.inputs ≡ length graph.nodes
  pub output_nodes : length circuit.outputs ≡ length graph.nodes

-- before the first firing
pub record IsFirst (graph : Graph) (sizes : List ℕ) (machine : MachineView) : Type 0 where
  pub fields : machine.fields ≡ map node_fields graph.nodes
  pub fired : machine.fired ≡ replicate (length graph.nodes) 0
  pub rings : AreFirst graph.channels sizes machine.rings
  pub words : machine.words ≡ replicate (length graph.nodes) []
