use Rattle.std.proofs.Common.{◌∙◌, ◌<◌, ◌+◌, sym, ap, subst, get_or, length, slice_get, arith}
use Rattle.std.proofs.lemmas.Option.{slice_get-get_or}
use Rattle.strc_sched_orders.proofs.Continuing.{RaisedFirst, raised_first_none, raised_first_more}
use Rattle.strc_sched_orders.proofs.Continuing.{raised_first_all}
use Rattle.strc_sched_orders.proofs.Networks.{nothing}
use Rattle.strc_sched_orders.proofs.buffer_sizes.peaks_from.Goals as goal

pub loop-channel-init : goal.loop-channel-init
loop-channel-init c =
    raised_first_none c.args.network.now.channels c.args.before.now c.in_ok-peaks.peaks.items
    c.in_ok-peaks.ensures.items

pub bounds-channels-channel : goal.bounds-channels-channel
bounds-channels-channel c =
    omega (
      arith,
      c.loop-channel-test.true,
      c.requires,
      ap length c.channels-channels.ensures.channels,
    )

pub loop-channel-preserved : goal.loop-channel-preserved
loop-channel-preserved c =
    let channels = c.args.network.now.channels in
    let before = c.args.before.now in
    let i = c.loop-channel.channel in
    let here = c.channels-channels.result.now in
    let same = c.channels-channels.ensures.channels in
    let rates = get_or here i nothing in
    let within : i < length here = omega (
      arith,
      c.loop-channel-test.true,
      c.requires,
      ap length same,
    ) in
    subst (λ l. RaisedFirst channels before l (i + 1)) (sym c.in_ok-push.ensures.items)
    (raised_first_more channels before c.loop-channel.peaks.items i rates c.max.result
    (ap (λ l. slice_get l i) (sym same) ∙ slice_get-get_or here i nothing within)
    (omega (arith, c.max.ensures, c.from.ensures)) c.loop-channel.invariant)

pub returns-clause-each : goal.returns-clause-each
returns-clause-each c =
    omega (
      arith,
      c.loop-channel.invariant.each,
      c.loop-channel-test.false,
      c.loop-channel.auto.channel-end,
      c.requires,
    )

pub returns-clause-peaks : goal.returns-clause-peaks
returns-clause-peaks c =
    raised_first_all c.args.network.now.channels c.args.before.now c.loop-channel.peaks.items
    c.loop-channel.channel (omega (arith, c.requires, c.loop-channel-test.false))
    c.loop-channel.invariant
