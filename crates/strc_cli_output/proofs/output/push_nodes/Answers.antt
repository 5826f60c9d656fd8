use Rattle.std.proofs.Common.{◌<◌, ◌∙◌, ap, sym, length, rules}
use Rattle.std.specs.Prelude.{slice_get, slice_index}
use Rattle.strc_elab_graph.specs.NodeView.{node_names}
use Rattle.strc_cli_output.proofs.PlanLines.{one_line_more}
use Rattle.strc_cli_output.proofs.output.push_nodes.Goals as goal

pub loop-node-preserved : goal.loop-node-preserved
loop-node-preserved c =
    let plan = c.args.plan.now in
    let counted : c.loop-node.node < length plan.round_counts = search rules in
    let named = ap (λ graph. slice_get (node_names graph) c.loop-node.node)
    (sym c.graph-graph.ensures.graph) ∙ c.name.ensures in
    let count = c.at.ensures
    ∙ ap (λ counts. slice_index counts c.loop-node.node) c.round_counts-counts.ensures.counts in
    one_line_more c.loop-node.node (node_names plan.graph) plan.round_counts c.name.result.now
    c.at.result _ _ _
    named counted count c.in_ok-push_node.ensures c.loop-node.invariant
