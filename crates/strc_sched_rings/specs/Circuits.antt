-- Circuits as the definitions see them.
use Rattle.std.specs.Prelude.{◌≡◌, ◌≢◌, length, map, true}
use Rattle.std.specs.Arc.{arc_value}
use Rattle.strc_elab_graph.specs.NodeView.{node_view}
use Rattle.strc_elab_graph.specs.declared.graph.Channel.{Channel}
use Rattle.strc_elab_graph.specs.declared.graph.Port.{Port}
use Rattle.strc_sched_rings.specs.declared.circuit.Circuit.{Circuit}
use Rattle.strc_sched_laws.specs.Machine.{CircuitView}
use Rattle.strc_sched_rings.specs.Apart.{AreAllApart}

-- where a channel begins and ends
abbrev pub source_of : Channel → Port
source_of channel = channel.source

abbrev pub target_of : Channel → Port
target_of channel = channel.target

-- and it ends at another node
abbrev pub IsBetween : Channel → Type 0
IsBetween channel = channel.source.node ≢ channel.target.node

abbrev pub circuit_view : Circuit → CircuitView
circuit_view circuit = record {
  codes = map node_view circuit.nodes.items;
  inputs = circuit.inputs;
  outputs = circuit.outputs;
  input = (arc_value circuit.input).items;
}

-- each node has a place for its ports, and what is told of the channels is so
pub record IsReady (circuit : Circuit) : Type 0 where
  pub input_nodes : length circuit.inputs ≡ length circuit.nodes.items
  pub output_nodes : length circuit.outputs ≡ length circuit.nodes.items
  pub apart : circuit.apart ≡ true → AreAllApart circuit.inputs circuit.outputs
