use Rattle.std.proofs.Common.{◌∙◌, sym}
use Rattle.strc_elab_graph.specs.NodeView.{graph_view}
use Rattle.strc_fuse.specs.Units.{is_free}
use Rattle.strc_fuse.proofs.Freely.{free_more, not_free}
use Rattle.strc_fuse.proofs.freedom.are_free.Goals as goal

pub returns-then-not-node_is_free : goal.returns-then-not-node_is_free
returns-then-not-node_is_free c =
    not_free (is_free (graph_view c.args.graph.now)) c.args.nodes.now c.loop-node.node-index _
    c.loop-node-test.true (sym c.node_is_free.ensures ∙ c.if-not-node_is_free.true)

pub loop-node-preserved : goal.loop-node-preserved
loop-node-preserved c =
    free_more (is_free (graph_view c.args.graph.now)) c.args.nodes.now c.loop-node.node-index _
    c.loop-node-test.true c.loop-node.invariant
    (sym c.node_is_free.ensures ∙ c.if-not-node_is_free.false)
