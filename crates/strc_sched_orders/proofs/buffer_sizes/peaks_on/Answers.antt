use Rattle.std.proofs.Common.{◌≡◌, ◌∙◌, sym, ap, subst}
use Rattle.strc_balance.specs.Balance.{count_at}
use Rattle.strc_sched_orders.specs.Firings.{none_fired}
use Rattle.strc_sched_orders.specs.Greedy.{firings_of}
use Rattle.strc_sched_orders.specs.Peaks.{AreBelow, AreRaised}
use Rattle.strc_sched_orders.proofs.Buffering.{zero_counts}
use Rattle.strc_sched_orders.proofs.Continuing.{raised_from, raised_known}
use Rattle.strc_sched_orders.proofs.buffer_sizes.peaks_on.Goals as goal

pub after_units-requires-clause-known : goal.after_units-requires-clause-known
after_units-requires-clause-known c =
    let zero : count_at c.in_ok-counts.counts.items ≡ none_fired =
    ap count_at c.in_ok-counts.ensures ∙ zero_counts c.size.result in
    subst (λ k. AreBelow c.args.network.now.channels k c.in_ok-peaks.peaks.items) (sym zero)
    (raised_known c.args.network.now.channels c.args.before.now c.in_ok-peaks.peaks.items
    c.in_ok-peaks.ensures.peaks)

pub returns-clause-each : goal.returns-clause-each
returns-clause-each c = c.in-Some.ensures.raises.channel ∙ c.in_ok-peaks.ensures.each

pub returns-clause-raised : goal.returns-clause-raised
returns-clause-raised c =
    let channels = c.args.network.now.channels in
    let order = firings_of c.args.round.now in
    let sizes = c.in-Some.raised.items in
    let zero : count_at c.in_ok-counts.counts.items ≡ none_fired =
    ap count_at c.in_ok-counts.ensures ∙ zero_counts c.size.result in
    raised_from channels order c.args.before.now c.in_ok-peaks.peaks.items sizes
    c.in_ok-peaks.ensures.peaks
    (subst (λ k. AreRaised channels k order c.in_ok-peaks.peaks.items sizes) zero
    c.in-Some.ensures.raises.peak)
