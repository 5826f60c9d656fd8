use Rattle.std.proofs.Common.{◌≡◌, map, take}
use Rattle.strc_elab_graph.specs.Graphs as graphs
use Rattle.strc_elab_graph.specs.NodeView.{node_view}
use Rattle.strc_sched_rings.proofs.circuit.output_counts.Given as goal

abbrev pub invariant-loop-node : goal.invariant-loop-node
invariant-loop-node l = l.counts.items
    ≡ map (λ node. graphs.output_ports (node_view node)) (take l.node-index l.nodes)
