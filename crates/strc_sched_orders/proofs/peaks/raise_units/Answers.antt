use Rattle.std.proofs.Common.{sym, ap, subst, take, arith}
use Rattle.strc_balance.specs.Balance.{count_at}
use Rattle.strc_sched_orders.specs.Greedy.{firings_of}
use Rattle.strc_sched_orders.specs.Order.{after, repeated}
use Rattle.strc_sched_orders.specs.Network.{size_of}
use Rattle.strc_sched_orders.specs.Peaks.{Raises, HasNodes}
use Rattle.strc_sched_orders.proofs.Passing.{raises_none, raises_below, raises_then, units_more}
use Rattle.strc_sched_orders.proofs.Passing.{units_within}
use Rattle.strc_sched_orders.proofs.Overflowing.{passes_if_none}
use Rattle.strc_sched_orders.proofs.peaks.raise_units.Goals as goal

pub loop-unit-init : goal.loop-unit-init
loop-unit-init c =
    raises_none c.args.network.now.channels c.args.counts.now c.args.peaks.now c.requires.known

pub raise_unit-requires-clause-nodes : goal.raise_unit-requires-clause-nodes
raise_unit-requires-clause-nodes c =
    subst (HasNodes (size_of c.args.network.now)) (sym c.unit-item.is)
    (c.requires.nodes c.loop-unit.unit-index c.unit-item.result c.loop-unit-test.true)

pub raise_unit-requires-clause-known : goal.raise_unit-requires-clause-known
raise_unit-requires-clause-known c =
    raises_below c.args.network.now.channels
    (firings_of (take c.loop-unit.unit-index c.args.units.now))
    c.args.counts.now c.args.peaks.now c.loop-unit.counts c.loop-unit.peaks c.loop-unit.invariant

pub loop-unit-preserved : goal.loop-unit-preserved
loop-unit-preserved c =
    let channels = c.args.network.now.channels in
    let units = c.args.units.now in
    let i = c.loop-unit.unit-index in
    let unit = c.unit-item.result in
    subst (λ l. Raises channels l c.args.counts.now c.args.peaks.now c.raise_unit.new.counts
    c.raise_unit.new.peaks) (sym (units_more units i unit c.loop-unit-test.true c.unit-item.is))
    (raises_then channels (firings_of (take i units)) (repeated unit.turns unit.nodes.items)
    c.args.counts.now c.args.peaks.now c.loop-unit.counts c.loop-unit.peaks
    c.raise_unit.new.counts c.raise_unit.new.peaks c.loop-unit.invariant
    c.in_ok-raise_unit.ensures.raises)

pub returns-in_err-raise_unit-clause-none : goal.returns-in_err-raise_unit-clause-none
returns-in_err-raise_unit-clause-none c =
    let unit = c.unit-item.result in
    let own = repeated unit.turns unit.nodes.items in
    let units = c.args.units.now in
    passes_if_none c.from_residual.result (after (count_at c.loop-unit.counts) own)
    (after (count_at c.args.counts.now) (firings_of units))
    (λ node.
    let e = ap (λ f. f node) c.loop-unit.invariant.counted in
    let t = units_within units c.loop-unit.unit-index node unit c.loop-unit-test.true
    c.unit-item.is in
    omega (arith, e, t)) c.in_err-raise_unit.ensures.none
