use Rattle.std.proofs.Common.{◌≡◌, ◌++◌, drop}
use Rattle.strc_elab_graph.specs.NodeView.{node_names}
use Rattle.strc_cli_output.specs.Output.{node_lines}
use Rattle.strc_cli_output.proofs.output.push_nodes.Given as goal

-- the text so far and the lines of the nodes left are the whole
abbrev pub invariant-loop-node : goal.invariant-loop-node
invariant-loop-node l =
    l.text.items
    ++ node_lines l.node (drop l.node (node_names l.plan.graph))
    (drop l.node l.plan.round_counts)
    ≡ l.fn.text.items ++ node_lines 0 (node_names l.plan.graph) l.plan.round_counts
