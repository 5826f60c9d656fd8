use Rattle.std.proofs.Common.{◌≡◌, ◌∙◌, ap, map, arith, length, ℕ}
use Rattle.std.proofs.lemmas.List.{length-replicate}
use Rattle.strc_balance.specs.Balance.{count_at}
use Rattle.strc_sched_orders.specs.Firings.{none_fired, fill}
use Rattle.strc_sched_orders.specs.Greedy.{firings_of}
use Rattle.strc_sched_orders.specs.Order.{after}
use Rattle.strc_sched_orders.proofs.Buffering.{zero_counts, enqueued_known, after_startup}
use Rattle.strc_sched_orders.proofs.Overflowing.{none_passes}
use Rattle.strc_sched_orders.proofs.buffers.after_startup.Goals as goal

pub fills-requires-clause-few : goal.fills-requires-clause-few
fills-requires-clause-few c node =
    let zero = ap count_at (c.deref.ensures.value ∙ c.in_ok-counts.ensures)
    ∙ zero_counts c.size.result in
    omega (arith, ap (λ k. k node) zero)

pub after_units-requires-clause-known : goal.after_units-requires-clause-known
after_units-requires-clause-known c =
    let channels = c.args.network.now.channels in
    let zero = ap count_at c.in_ok-counts.ensures ∙ zero_counts c.size.result in
    enqueued_known c.args.network.now c.args.startup.now c.in_ok-counts.counts.items
    c.in_ok-enqueued.enqueued.items zero (c.in_ok-enqueued.ensures
    ∙ ap (λ l. map (λ rates. fill rates (count_at l)) channels) c.deref.ensures.value)

pub unreachable-requires : goal.unreachable-requires
unreachable-requires c =
    let zero : count_at c.in_ok-counts.counts.items ≡ none_fired =
    ap count_at c.in_ok-counts.ensures ∙ zero_counts c.size.result in
    none_passes (after (count_at c.in_ok-counts.counts.items) (firings_of c.args.startup.now))
    (λ node. omega (arith, ap (λ k. k node) zero, c.requires.few node))
    c.in_default.ensures.none

pub returns : goal.returns
returns c =
    let each = ap length c.in_ok-counts.ensures ∙ length-replicate {A = ℕ} c.size.result 0
    ∙ c.size.ensures.size in
    let channels = c.args.network.now.channels in
    let zero = ap count_at c.in_ok-counts.ensures ∙ zero_counts c.size.result in
    after_startup c.args.network.now c.args.startup.now c.in_ok-counts.counts.items
    c.in_ok-enqueued.enqueued.items zero (c.in_ok-enqueued.ensures
    ∙ ap (λ l. map (λ rates. fill rates (count_at l)) channels) c.deref.ensures.value) each
    c.in-Some.later.0.items c.in-Some.later.1.items c.in-Some.ensures.raises
