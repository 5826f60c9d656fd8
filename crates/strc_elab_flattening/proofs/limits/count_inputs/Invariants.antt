use Rattle.std.proofs.Common.{◌≡◌, ◌+◌, drop, map, count_by}
use Rattle.strc_elab_graph.specs.Graphs.{reads_input}
use Rattle.strc_elab_graph.specs.NodeView.{node_view}
use Rattle.strc_elab_flattening.proofs.limits.count_inputs.Given as goal

-- those so far, and those among the nodes left
abbrev pub invariant-loop-node : goal.invariant-loop-node
invariant-loop-node l =
    l.count + count_by reads_input (map node_view (drop l.node-index l.nodes))
    ≡ count_by reads_input (map node_view l.nodes)
