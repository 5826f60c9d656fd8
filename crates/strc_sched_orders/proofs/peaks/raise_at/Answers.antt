use Rattle.std.proofs.Common.{◌∙◌, sym, ap, subst, ◌<◌, ◌+◌, length, set, get_or, max, arith}
use Rattle.std.proofs.lemmas.Option.{slice_get-get_or}
use Rattle.strc_balance.specs.Balance.{count_at}
use Rattle.strc_startup.specs.Waiting.{HasEnds, IsBounded}
use Rattle.strc_sched_orders.proofs.Touching.{Touches, touches_none, touches_more, all_touched}
use Rattle.strc_sched_orders.proofs.Turning.{rates_there}
use Rattle.strc_sched_orders.proofs.peaks.raise_at.Goals as goal

pub channel-requires : goal.channel-requires
channel-requires c =
    c.requires.numbers c.loop-number.number-index 0 c.loop-number-test.true

pub fill-requires-clause-ends : goal.fill-requires-clause-ends
fill-requires-clause-ends c =
    let network = c.args.network.now in
    subst (λ n. HasEnds n c.channel.result.now) (sym c.requires.each)
    (rates_there (HasEnds (length network.incoming)) network
    (get_or c.args.numbers.now c.loop-number.number-index 0) c.channel.result.now
    c.channel.ensures.network.ends c.channel.ensures.rates)

pub fill-requires-clause-bounds : goal.fill-requires-clause-bounds
fill-requires-clause-bounds c =
    rates_there IsBounded c.args.network.now
    (get_or c.args.numbers.now c.loop-number.number-index 0) c.channel.result.now
    c.channel.ensures.network.bounds c.channel.ensures.rates

pub loop-number-init : goal.loop-number-init
loop-number-init c =
    touches_none c.args.network.now.channels c.args.numbers.now (count_at c.args.counts.now)
    c.args.peaks.now

pub loop-number-preserved : goal.loop-number-preserved
loop-number-preserved c =
    let channels = c.args.network.now.channels in
    let numbers = c.args.numbers.now in
    let place = c.loop-number.number-index in
    let number = get_or numbers place 0 in
    let now = c.loop-number.peaks in
    let counts = count_at c.args.counts.now in
    let touches = c.loop-number.invariant in
    let known = c.requires.numbers place 0 c.loop-number-test.true in
    let inside : number < length now = omega (arith, known, touches.each, c.requires.peaks) in
    subst (λ v. Touches channels numbers counts c.args.peaks.now (set now number v) (place + 1))
    (sym (c.max.ensures ∙ ap (max (get_or now number 0)) c.in_ok-items.ensures.fill))
    (touches_more channels numbers counts c.args.peaks.now now place number c.channel.result.now
    (slice_get-get_or numbers place 0 c.loop-number-test.true) c.channel.ensures.rates inside
    touches)

pub returns-clause-peaks : goal.returns-clause-peaks
returns-clause-peaks c = c.loop-number.invariant.each

pub returns-clause-touched : goal.returns-clause-touched
returns-clause-touched c = c.loop-number.invariant.touched

pub returns-clause-served : goal.returns-clause-served
returns-clause-served c =
    all_touched c.args.network.now.channels c.args.numbers.now (count_at c.args.counts.now)
    c.args.peaks.now c.loop-number.peaks c.loop-number.number-index c.loop-number-test.false
    c.loop-number.invariant
