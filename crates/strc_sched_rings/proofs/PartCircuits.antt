-- The circuit of a part that is all of a graph.
use Rattle.std.proofs.Common.{◌≡◌, ◌∙◌, sym, ap, subst, ◌+◌, ℕ, List, length, arith}
use Rattle.std.proofs.Common.{Result, Ok, Err}
use Rattle.std.specs.Prelude.{IfOk, slice_get, map}
use Rattle.strc_elab_graph.specs.Graphs.{Channel}
use Rattle.strc_sched_laws.specs.Wiring.{IsWired, PortRings}
use Rattle.std.proofs.lemmas.List.{length-map}
use Rattle.strc_lex_names.specs.declared.memory.NoMemory.{NoMemory}
use Rattle.strc_elab_graph.specs.Graphs.{Graph}
use Rattle.strc_elab_graph.specs.NodeView.{GraphParts, graph_view, node_view}
use Rattle.strc_elab_graph.specs.declared.graph.Node.{Node}
use Rattle.strc_sched_laws.specs.Circuits.{IsCircuit}
use Rattle.strc_sched_laws.specs.Machine.{CircuitView}
use Rattle.strc_sched_rings.specs.Circuits.{circuit_view}
use Rattle.strc_sched_rings.specs.Parts.{IsOutside, IsPartCircuit, PartsArePartCircuits, part_codes}
use Rattle.strc_sched_rings.specs.declared.circuit.Circuit.{Circuit}
use Rattle.strc_sched_rings.proofs.PartLists.{codes_long, codes_same, other_code, own_code}

part_is_all : (graph : Graph) (next : ℕ) (circuit : CircuitView) → length graph.nodes ≡ next
    → IsPartCircuit graph 0 next circuit → IsCircuit graph circuit
part_is_all graph next circuit all part = record {
  codes = codes_same circuit.codes graph.nodes part.each
      (λ k less. part.own k (omega arith) (omega (arith, less, all)));
  inputs = part.inputs;
  outputs = part.outputs;
  input_nodes = part.input_nodes;
  output_nodes = part.output_nodes;
}

pub all_of_them : (graph : GraphParts) (nodes : List Node) (result : Result Circuit NoMemory)
    → nodes ≡ graph.nodes
    → IfOk result (λ circuit. IsPartCircuit (graph_view graph) 0 (length nodes)
    (circuit_view circuit))
    → IfOk result (λ circuit. IsCircuit (graph_view graph) (circuit_view circuit))
all_of_them graph nodes (Ok circuit) same part =
    part_is_all (graph_view graph) (length nodes) (circuit_view circuit)
    (length-map graph.nodes node_view ∙ ap length (sym same)) part
all_of_them graph nodes (Err refused) same part = tt

pub parts_are_part_circuits : PartsArePartCircuits
parts_are_part_circuits graph whole part first next is own =
    let codes = own.codes ∙ ap (part_codes first next 0) is.codes in
    record {
      each = ap length codes ∙ codes_long first next 0 graph.nodes;
      own = λ node from below. ap (λ l. slice_get l node) codes
          ∙ own_code first next 0 graph.nodes node (omega arith) (omega arith);
      others = λ node less outside. ap (λ l. slice_get l node) codes
          ∙ other_code first next 0 graph.nodes node less
          (let e : node ≡ 0 + node = omega arith in subst (IsOutside first next) e outside);
      inputs = subst (λ (rings : PortRings).
          IsWired (map (λ (channel : Channel). channel.target) graph.channels) rings)
          (sym own.inputs) is.inputs;
      outputs = subst (λ (rings : PortRings).
          IsWired (map (λ (channel : Channel). channel.source) graph.channels) rings)
          (sym own.outputs) is.outputs;
      input_nodes = ap length own.inputs ∙ is.input_nodes;
      output_nodes = ap length own.outputs ∙ is.output_nodes;
    }
