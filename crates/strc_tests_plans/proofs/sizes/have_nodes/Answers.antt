use Rattle.std.proofs.Common.{sym, subst, ◌<◌, All, true, take, rules}
use Rattle.std.specs.Prelude.{IsTrue}
use Rattle.std.proofs.lemmas.List.{take_all, take_more}
use Rattle.std.proofs.lemmas.List.Elements.{All-push}
use Rattle.strc_sched_orders.specs.Peaks.{HasNodes}
use Rattle.strc_tests_plans.proofs.sizes.have_nodes.Goals as goal

pub loop-unit-preserved : goal.loop-unit-preserved
loop-unit-preserved c =
    let all = c.args.units.now in
    let i = c.loop-unit.unit-index in
    let unit = c.unit-item.result in
    let sure : IsTrue true = search rules in
    let has : HasNodes c.args.size unit =
    subst (All (λ node. node < c.args.size)) c.deref.ensures.value
    (c.if-not-are_below.ensures sure) in
    subst (All (HasNodes c.args.size)) (sym (take_more all i unit c.loop-unit-test.true))
    (All-push (HasNodes c.args.size) (take i all) _ c.loop-unit.invariant
    (subst (HasNodes c.args.size) c.unit-item.is has))

pub returns : goal.returns
returns c sure =
    subst (All (HasNodes c.args.size))
    (take_all c.loop-unit.unit-index c.args.units.now c.loop-unit-test.false)
    c.loop-unit.invariant
