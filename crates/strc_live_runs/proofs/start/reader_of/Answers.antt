use Rattle.std.proofs.Common.{◌∙◌, arith, map, sym}
use Rattle.std.proofs.lemmas.List.{length-map}
use Rattle.strc_elab_graph.specs.NodeView.{node_view}
use Rattle.strc_live_runs.proofs.Starts.{code_at, first_reader, no_reader, none_more}
use Rattle.strc_live_runs.proofs.start.reader_of.Goals as goal

pub returns-then-is_reader : goal.returns-then-is_reader
returns-then-is_reader c =
    let own = c.index-nodes-node.result in
    first_reader (map node_view c.args.nodes.now) c.loop-node.node (node_view own)
    (code_at c.args.nodes.now c.loop-node.node own c.loop-node-test.true c.index-nodes-node.is)
    (sym c.is_reader.ensures ∙ c.if-is_reader.true)

pub loop-node-preserved : goal.loop-node-preserved
loop-node-preserved c =
    let own = c.index-nodes-node.result in
    none_more (map node_view c.args.nodes.now) c.loop-node.node (node_view own)
    c.loop-node.invariant
    (code_at c.args.nodes.now c.loop-node.node own c.loop-node-test.true c.index-nodes-node.is)
    (sym c.is_reader.ensures ∙ c.if-is_reader.false)

pub returns : goal.returns
returns c =
    let many = length-map c.args.nodes.now node_view in
    no_reader (map node_view c.args.nodes.now) c.loop-node.node _ c.loop-node.invariant
    (omega (arith, many))
