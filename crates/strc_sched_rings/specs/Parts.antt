-- A part of a graph's nodes: those from the first up to the next one, not including it.
use Rattle.std.specs.Prelude.{◌≡◌, ℕ, suc, ◌<◌, ◌≤◌, ◌⊎◌, Bool, ◌&&◌, if◌then◌else◌, nat_le, nat_lt}
use Rattle.std.specs.Prelude.{List, [], ◌∷◌, Some, length, map, slice_get}
use Rattle.strc_elab_graph.specs.Graphs.{Graph, Channel, NodeCode, Identity}
use Rattle.strc_sched_laws.specs.Circuits.{IsCircuit}
use Rattle.strc_sched_laws.specs.Machine.{CircuitView}
use Rattle.strc_sched_laws.specs.Wiring.{IsWired}

-- whether a node is one of them
abbrev pub is_within : (first next node : ℕ) → Bool
is_within first next node = nat_le first node && nat_lt node next

-- it is none of them
abbrev pub IsOutside : (first next node : ℕ) → Type 0
IsOutside first next node = (node < first) ⊎ (next ≤ node)

-- the nodes of a part, and identities in place of the others; the first of these has this number
abbrev pub part_codes : (first next number : ℕ) → List NodeCode → List NodeCode
part_codes first next number [] = []
part_codes first next number (code ∷ codes) =
    (if is_within first next number then code else Identity)
    ∷ part_codes first next (suc number) codes

-- the circuit of a part: its nodes, identities in place of the others, and the ring of each channel
-- at both of its ends
pub record IsPartCircuit (graph : Graph) (first next : ℕ) (circuit : CircuitView) : Type 0 where
  pub each : length circuit.codes ≡ length graph.nodes
  pub own : (node : ℕ) → first ≤ node → node < next
      → slice_get circuit.codes node ≡ slice_get graph.nodes node
  pub others : (node : ℕ) → node < length graph.nodes → IsOutside first next node
      → slice_get circuit.codes node ≡ Some Identity
  pub inputs : IsWired (map (λ (channel : Channel). channel.target) graph.channels) circuit.inputs
  pub outputs : IsWired (map (λ (channel : Channel). channel.source) graph.channels)
      circuit.outputs
  pub input_nodes : length circuit.inputs ≡ length graph.nodes
  pub output_nodes : length circuit.outputs ≡ length graph.nodes

-- a circuit of a part of another one's nodes has the same rings at their ports, and its input
pub record IsPartOf (first next : ℕ) (whole part : CircuitView) : Type 0 where
  pub codes : part.codes ≡ part_codes first next 0 whole.codes
  pub inputs : part.inputs ≡ whole.inputs
  pub outputs : part.outputs ≡ whole.outputs
  pub input : part.input ≡ whole.input

-- a part of a graph's circuit is the circuit of that part of the graph
abbrev pub PartsArePartCircuits : Type 0
PartsArePartCircuits =
    (graph : Graph) (whole part : CircuitView) (first next : ℕ)
    → IsCircuit graph whole → IsPartOf first next whole part
    → IsPartCircuit graph first next part
