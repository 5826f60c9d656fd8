-- The nodes of a circuit, as the code keeps them and as contracts see them.
use Rattle.std.proofs.Common.{ℕ, ◌<◌, List, length, map, arith}
use Rattle.std.proofs.lemmas.List.{length-map}
use Rattle.strc_elab_graph.specs.NodeView.{node_view}
use Rattle.strc_elab_graph.specs.declared.graph.Node.{Node}

-- a node of the one list is a node of the other
pub node_within : (nodes : List Node) (node : ℕ) → node < length (map node_view nodes)
    → node < length nodes
node_within nodes node within = omega (arith, within, length-map nodes node_view)
