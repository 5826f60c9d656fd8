use Rattle.std.proofs.Common.{◌≡◌, ◌<◌, ◌≤◌, All, take, sym, ap, subst, arith}
use Rattle.std.proofs.lemmas.List.{take_all, take_more}
use Rattle.std.proofs.lemmas.List.Elements.{All-push}
use Rattle.strc_tests_plans.proofs.sizes.are_below.Goals as goal

pub loop-node-preserved : goal.loop-node-preserved
loop-node-preserved c =
    let all = c.args.nodes.now in
    let i = c.loop-node.node-index in
    subst (All (λ n. n < c.args.size)) (sym (take_more all i 0 c.loop-node-test.true))
    (All-push (λ n. n < c.args.size) (take i all) _ c.loop-node.invariant
    (omega (arith, c.if-node-size.false)))

pub returns : goal.returns
returns c is =
    subst (All (λ n. n < c.args.size))
    (take_all c.loop-node.node-index c.args.nodes.now c.loop-node-test.false)
    c.loop-node.invariant
