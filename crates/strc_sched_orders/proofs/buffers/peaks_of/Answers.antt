use Rattle.std.proofs.Common.{◌∙◌, sym, ap, subst, map, arith, length}
use Rattle.strc_balance.specs.Balance.{count_at}
use Rattle.strc_sched_orders.specs.Firings.{fill}
use Rattle.strc_sched_orders.specs.Greedy.{firings_of}
use Rattle.strc_sched_orders.specs.Order.{after}
use Rattle.strc_sched_orders.specs.Peaks.{AreBelow}
use Rattle.strc_sched_orders.proofs.Buffering.{greatest_each, greatest_known, are_buffers}
use Rattle.strc_sched_orders.proofs.Overflowing.{none_passes}
use Rattle.strc_sched_orders.proofs.buffers.peaks_of.Goals as goal

pub fills-requires-clause-each : goal.fills-requires-clause-each
fills-requires-clause-each c = ap length c.deref.ensures.value ∙ c.in_ok-counts.ensures.nodes

pub fills-requires-clause-few : goal.fills-requires-clause-few
fills-requires-clause-few c node =
    let e = ap (λ k. k node) (ap count_at c.deref.ensures.value ∙ c.in_ok-counts.ensures.counted) in
    omega (arith, e, c.requires.few node)

pub after_units-requires-clause-each : goal.after_units-requires-clause-each
after_units-requires-clause-each c = c.in_ok-counts.ensures.nodes

pub after_units-requires-clause-peaks : goal.after_units-requires-clause-peaks
after_units-requires-clause-peaks c =
    ap length (c.in_ok-copy.ensures ∙ c.deref-2.ensures.value)
    ∙ greatest_each c.args.network.now c.args.startup.now c.args.round.now
    c.in_ok-counts.counts.items c.in_ok-counts.greatest.items c.in_ok-counts.ensures

pub after_units-requires-clause-nodes : goal.after_units-requires-clause-nodes
after_units-requires-clause-nodes c = c.requires.round

pub after_units-requires-clause-known : goal.after_units-requires-clause-known
after_units-requires-clause-known c =
    subst (AreBelow c.args.network.now.channels (count_at c.in_ok-counts.counts.items))
    (sym (c.in_ok-copy.ensures ∙ c.deref-2.ensures.value))
    (greatest_known c.args.network.now c.args.startup.now c.args.round.now
    c.in_ok-counts.counts.items c.in_ok-counts.greatest.items c.in_ok-counts.ensures)

pub unreachable-requires : goal.unreachable-requires
unreachable-requires c =
    none_passes (after (count_at c.in_ok-counts.counts.items) (firings_of c.args.round.now))
    (λ node.
    let e = ap (λ k. k node) c.in_ok-counts.ensures.counted in
    omega (arith, e, c.requires.few node)) c.in_default.ensures.none

pub returns : goal.returns
returns c =
    let channels = c.args.network.now.channels in
    are_buffers c.args.network.now c.args.startup.now c.args.round.now c.in_ok-counts.counts.items
    c.in_ok-counts.greatest.items c.in_ok-counts.ensures c.in_ok-last.last.items
    c.in_ok-copy.copy.items c.in-Some._counts.items
    c.in-Some.sizes.items
    (c.in_ok-last.ensures
    ∙ ap (λ l. map (λ rates. fill rates (count_at l)) channels) c.deref.ensures.value)
    (c.in_ok-copy.ensures ∙ c.deref-2.ensures.value) c.in-Some.ensures.raises
