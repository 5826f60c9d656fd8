use Rattle.std.proofs.Common.{◌∙◌, sym, ap, subst, map, All, length, ◌++◌, ◌∷◌, []}
use Rattle.std.proofs.lemmas.List.{take_all}
use Rattle.strc_balance.specs.Balance.{count_at}
use Rattle.strc_startup.specs.Waiting.{HasEnds, IsBounded}
use Rattle.strc_sched_orders.specs.Firings.{fill}
use Rattle.strc_sched_orders.proofs.Networks.{nothing, map_more}
use Rattle.strc_sched_orders.proofs.Overflowing.{none_passes}
use Rattle.strc_sched_orders.proofs.buffers.fills.Goals as goal

pub loop-rates-init : goal.loop-rates-init
loop-rates-init c = c.in_ok-fills.ensures.items

pub fill-requires-clause-ends : goal.fill-requires-clause-ends
fill-requires-clause-ends c =
    subst (All (HasEnds (length c.args.counts.now))) (sym c.channels-channels.ensures.channels)
    (subst (λ n. All (HasEnds n) c.args.network.now.channels) (sym c.requires.each)
    c.channels-channels.ensures.network.ends) c.loop-rates.rates-index nothing
    c.loop-rates-test.true

pub fill-requires-clause-bounds : goal.fill-requires-clause-bounds
fill-requires-clause-bounds c =
    subst (All IsBounded) (sym c.channels-channels.ensures.channels)
    c.channels-channels.ensures.network.bounds c.loop-rates.rates-index nothing
    c.loop-rates-test.true

pub unreachable-requires : goal.unreachable-requires
unreachable-requires c =
    none_passes (count_at c.args.counts.now) c.requires.few c.in_default.ensures.none

pub loop-rates-preserved : goal.loop-rates-preserved
loop-rates-preserved c =
    let before = c.loop-rates.fills.items in
    c.in_ok-push.ensures.items ∙ ap (λ v. before ++ v ∷ []) c.in-Some.ensures.fill
    ∙ map_more (λ rates. fill rates (count_at c.args.counts.now)) c.channels-channels.result.now
    c.loop-rates.rates-index nothing before c.loop-rates-test.true c.loop-rates.invariant

pub returns : goal.returns
returns c =
    let counts = count_at c.args.counts.now in
    c.loop-rates.invariant
    ∙ ap (map (λ rates. fill rates counts))
    (take_all c.loop-rates.rates-index c.channels-channels.result.now c.loop-rates-test.false
    ∙ c.channels-channels.ensures.channels)
