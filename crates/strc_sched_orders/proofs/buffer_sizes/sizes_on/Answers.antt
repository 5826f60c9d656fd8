use Rattle.std.proofs.Common.{◌∙◌, sym, ap, subst, length, All, ◌≤◌}
use Rattle.strc_sched_orders.specs.Buffers.{size_limit}
use Rattle.strc_sched_orders.specs.Firings.{none_fired}
use Rattle.strc_sched_orders.specs.Greedy.{firings_of}
use Rattle.strc_sched_orders.specs.Peaks.{AreRaised, IsFirstPast}
use Rattle.strc_sched_orders.proofs.buffer_sizes.sizes_on.Goals as goal

pub returns-in-Some-clause-none : goal.returns-in-Some-clause-none
returns-in-Some-clause-none c = record {
  sizes = c.in_ok-peaks.peaks.items;
  each = c.in_ok-peaks.ensures.each;
  raised = c.in_ok-peaks.ensures.raised;
  past = subst (λ l. IsFirstPast l c.in-Some.channel) c.deref.ensures.value c.in-Some.ensures.past;
}

pub narrowed-requires : goal.narrowed-requires
narrowed-requires c =
    subst (All (λ size. size ≤ size_limit)) (c.deref.ensures.value ∙ sym c.deref-2.ensures.value)
    c.in_default.ensures.within

pub returns-clause-channels : goal.returns-clause-channels
returns-clause-channels c =
    ap length (c.in_ok-narrowed.ensures ∙ c.deref-2.ensures.value) ∙ c.in_ok-peaks.ensures.each

pub returns-clause-within : goal.returns-clause-within
returns-clause-within c =
    subst (All (λ size. size ≤ size_limit))
    (c.deref.ensures.value ∙ sym (c.in_ok-narrowed.ensures ∙ c.deref-2.ensures.value))
    c.in_default.ensures.within

pub returns-clause-sizes : goal.returns-clause-sizes
returns-clause-sizes c =
    subst (AreRaised c.args.network.now.channels none_fired (firings_of c.args.round.now)
    c.args.before.now) (sym (c.in_ok-narrowed.ensures ∙ c.deref-2.ensures.value))
    c.in_ok-peaks.ensures.raised
