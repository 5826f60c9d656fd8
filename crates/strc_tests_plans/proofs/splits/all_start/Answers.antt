use Rattle.std.proofs.Common.{◌<◌, ◌≤◌, refl, length, map, take, ap, sym, subst, All, arith}
use Rattle.std.proofs.lemmas.List.{map_more, take_all}
use Rattle.std.proofs.lemmas.List.Elements.{All-push}
use Rattle.strc_elab_graph.specs.NodeView.{node_view}
use Rattle.strc_sched_machine.specs.Actors.{CanStartNode}
use Rattle.strc_tests_plans.proofs.splits.all_start.Goals as goal

pub loop-node-preserved : goal.loop-node-preserved
loop-node-preserved c =
    let nodes = c.args.nodes.now in
    let i = c.loop-node.node-index in
    let node = c.node-item.result in
    let short : i < length nodes = omega arith in
    let here : CanStartNode (node_view node) =
    c.if-not-node_starts.ensures refl in
    subst (All CanStartNode) (sym (map_more node_view nodes i node short))
    (All-push CanStartNode (map node_view (take i nodes)) _ c.loop-node.invariant
    (subst (λ x. CanStartNode (node_view x)) c.node-item.is here))

pub returns : goal.returns
returns c = λ yes.
    let nodes = c.args.nodes.now in
    let i = c.loop-node.node-index in
    let all : length nodes ≤ i = omega arith in
    subst (All CanStartNode) (ap (map node_view) (take_all i nodes all)) c.loop-node.invariant
