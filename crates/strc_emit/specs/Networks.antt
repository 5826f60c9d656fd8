-- The network of a graph with its counts and its schedule.
use Rattle.std.specs.Prelude.{◌≡◌, ℕ, List, map, vec_items}
use Rattle.strc_elab_graph.specs.NodeView.{GraphParts, graph_view}
use Rattle.strc_sched_orders.specs.Schedules.{ScheduleParts}
use Rattle.strc_sched_laws.specs.Circuits.{IsCircuit}
use Rattle.strc_sched_laws.specs.Machine.{CircuitView}
use Rattle.strc_emit_moves.specs.declared.places.Network.{Network}

-- the network has a graph's nodes and channels, how often the nodes fire, and how many items
-- start-up leaves
pub record HasParts (graph : GraphParts) (startup round : List ℕ) (schedule : ScheduleParts)
    (network : Network) : Type 0 where
  pub nodes : network.nodes.now ≡ graph.nodes
  pub channels : network.channels.now ≡ graph.channels
  pub left : network.left.now ≡ schedule.last
  pub startup_is : network.startup.now ≡ startup
  pub round_is : network.round.now ≡ round

-- it is that of a graph: it has its parts, and the channel at each port
pub record IsNetworkOf (graph : GraphParts) (startup round : List ℕ) (schedule : ScheduleParts)
    (network : Network) : Type 0 where
  pub parts : HasParts graph startup round schedule network
  pub circuit : CircuitView
  pub is : IsCircuit (graph_view graph) circuit
  pub inputs : map vec_items network.inputs.now ≡ circuit.inputs
  pub outputs : map vec_items network.outputs.now ≡ circuit.outputs
