use Rattle.std.proofs.Common.{◌≡◌, ◌∙◌, ◌<◌, ◌≤◌, true, All, length, map, take, get_or, ap, sym}
use Rattle.std.proofs.Common.{subst, arith, rules}
use Rattle.std.specs.Prelude.{IsTrue}
use Rattle.std.proofs.lemmas.List.{map_more, take_all, get_or-map, length-map}
use Rattle.std.proofs.lemmas.List.Elements.{All-push}
use Rattle.strc_elab_graph.specs.NodeView.{node_view}
use Rattle.strc_tests_plans.specs.Movers.{PassesOn}
use Rattle.strc_tests_plans.proofs.runs.pass_on.Goals as goal

pub returns-then-not-passes_on : goal.returns-then-not-passes_on
returns-then-not-passes_on c =
    let nodes = c.args.nodes.now in
    let node = c.node-item.result in
    let i = c.loop-node.node-index in
    let short : i < length nodes = omega arith in
    let there : i < length (map node_view nodes) = omega (arith, length-map nodes node_view) in
    let same : get_or (map node_view nodes) i (node_view node) ≡ node_view node =
    get_or-map node_view nodes i node (node_view node) short
    ∙ ap node_view (sym c.node-item.is) in (
      λ yes. absurd (cc),
      λ all. c.if-not-passes_on.ensures.1 (subst PassesOn same (all i (node_view node) there)),
    )

pub loop-node-preserved : goal.loop-node-preserved
loop-node-preserved c =
    let nodes = c.args.nodes.now in
    let node = c.node-item.result in
    let i = c.loop-node.node-index in
    let short : i < length nodes = omega arith in
    let yes : IsTrue true = search rules in
    let here : PassesOn (node_view node) = c.if-not-passes_on.ensures.0 yes in
    subst (All PassesOn) (sym (map_more node_view nodes i node short))
    (All-push PassesOn (map node_view (take i nodes)) _ c.loop-node.invariant
    (subst (λ x. PassesOn (node_view x)) c.node-item.is here))

pub returns : goal.returns
returns c =
    let nodes = c.args.nodes.now in
    let i = c.loop-node.node-index in
    let all : length nodes ≤ i = omega arith in
    let yes : IsTrue true = search rules in (
      λ held. subst (All PassesOn) (ap (map node_view) (take_all i nodes all))
          c.loop-node.invariant,
      λ pass. yes,
    )
