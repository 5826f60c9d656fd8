use Rattle.std.proofs.Common.{◌∙◌, ap, map, ◌++◌, ◌∷◌, []}
use Rattle.std.proofs.lemmas.List.{take_all}
use Rattle.strc_elab_graph.specs.Graphs as graphs
use Rattle.strc_elab_graph.specs.NodeView.{node_view}
use Rattle.strc_elab_graph.specs.declared.graph.Node.{Node}
use Rattle.strc_sched_rings.proofs.CircuitPorts.{map_more}
use Rattle.strc_sched_rings.proofs.circuit.output_counts.Goals as goal

pub loop-node-init : goal.loop-node-init
loop-node-init c = c.in_ok-counts.ensures.items

pub loop-node-preserved : goal.loop-node-preserved
loop-node-preserved c =
    let before = c.loop-node.counts.items in
    c.in_ok-push.ensures.items ∙ ap (λ v. before ++ v ∷ []) c.output_ports.ensures
    ∙ map_more (λ (node : Node). graphs.output_ports (node_view node)) c.args.nodes.now
    c.loop-node.node-index c.node-item.result before c.loop-node-test.true c.node-item.is
    c.loop-node.invariant

pub returns : goal.returns
returns c =
    c.loop-node.invariant
    ∙ ap (map (λ (node : Node). graphs.output_ports (node_view node)))
    (take_all c.loop-node.node-index c.args.nodes.now c.loop-node-test.false)
