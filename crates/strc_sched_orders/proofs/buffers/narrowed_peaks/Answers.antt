use Rattle.std.proofs.Common.{◌∙◌, sym, subst, All, ◌≤◌}
use Rattle.strc_sched_orders.specs.Buffers.{size_limit}
use Rattle.strc_sched_orders.proofs.buffers.narrowed_peaks.Goals as goal

pub narrowed-requires : goal.narrowed-requires
narrowed-requires c =
    subst (All (λ size. size ≤ size_limit)) (sym c.deref.ensures.value) c.requires.greatest

pub narrowed-requires-2 : goal.narrowed-requires-2
narrowed-requires-2 c =
    subst (All (λ size. size ≤ size_limit)) (sym c.deref-2.ensures.value) c.requires.last

pub narrowed-requires-3 : goal.narrowed-requires-3
narrowed-requires-3 c =
    subst (All (λ size. size ≤ size_limit)) (sym c.deref-3.ensures.value) c.requires.sizes

pub returns-clause-greatest : goal.returns-clause-greatest
returns-clause-greatest c = c.in_ok-narrowed.ensures ∙ c.deref.ensures.value

pub returns-clause-last : goal.returns-clause-last
returns-clause-last c = c.in_ok-narrowed-2.ensures ∙ c.deref-2.ensures.value

pub returns-clause-sizes : goal.returns-clause-sizes
returns-clause-sizes c = c.in_ok-narrowed-3.ensures ∙ c.deref-3.ensures.value
