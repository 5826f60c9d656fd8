use Rattle.std.proofs.Common.{◌∙◌, sym, subst, All, ◌≤◌}
use Rattle.strc_sched_orders.specs.Buffers.{size_limit}
use Rattle.strc_sched_orders.specs.Peaks.{IsFirstPast}
use Rattle.strc_sched_orders.proofs.Buffering.{greatest_within, last_within, same_buffers}
use Rattle.strc_sched_orders.proofs.buffers.buffers_of.Goals as goal

pub returns-in-Some-clause-none : goal.returns-in-Some-clause-none
returns-in-Some-clause-none c =
    subst (λ l. IsFirstPast l c.in-Some.channel)
    (c.deref.ensures.value ∙ c.in_ok-peaks.ensures.sizes) c.in-Some.ensures.past

pub narrowed_peaks-requires-clause-greatest : goal.narrowed_peaks-requires-clause-greatest
narrowed_peaks-requires-clause-greatest c =
    let peaks = c.in_ok-peaks.peaks in
    greatest_within c.args.network.now.channels c.args.startup.now c.args.round.now
    peaks.greatest.items peaks.last.items peaks.sizes.items c.in_ok-peaks.ensures
    (subst (All (λ size. size ≤ size_limit)) c.deref.ensures.value c.in_default.ensures.within)

pub narrowed_peaks-requires-clause-last : goal.narrowed_peaks-requires-clause-last
narrowed_peaks-requires-clause-last c =
    let peaks = c.in_ok-peaks.peaks in
    last_within c.args.network.now.channels c.args.startup.now c.args.round.now
    peaks.greatest.items peaks.last.items peaks.sizes.items c.in_ok-peaks.ensures
    (subst (All (λ size. size ≤ size_limit)) c.deref.ensures.value c.in_default.ensures.within)

pub narrowed_peaks-requires-clause-sizes : goal.narrowed_peaks-requires-clause-sizes
narrowed_peaks-requires-clause-sizes c =
    subst (All (λ size. size ≤ size_limit)) c.deref.ensures.value c.in_default.ensures.within

pub returns-clause-buffers : goal.returns-clause-buffers
returns-clause-buffers c =
    let peaks = c.in_ok-peaks.peaks in
    let narrowed = c.in_ok-narrowed_peaks.field-0 in
    same_buffers c.args.network.now.channels c.args.startup.now c.args.round.now
    peaks.greatest.items peaks.last.items peaks.sizes.items c.in_ok-peaks.ensures
    narrowed.greatest.items narrowed.last.items narrowed.sizes.items
    c.in_ok-narrowed_peaks.ensures.greatest c.in_ok-narrowed_peaks.ensures.last
    c.in_ok-narrowed_peaks.ensures.sizes

pub returns-clause-within : goal.returns-clause-within
returns-clause-within c =
    subst (All (λ size. size ≤ size_limit))
    (c.deref.ensures.value ∙ sym c.in_ok-narrowed_peaks.ensures.sizes) c.in_default.ensures.within
