use Rattle.std.proofs.Common.{sym, ap, subst, arith}
use Rattle.strc_balance.specs.Balance.{count_at}
use Rattle.strc_sched_orders.specs.Order.{after, repeated}
use Rattle.strc_sched_orders.specs.Peaks.{Raises}
use Rattle.strc_sched_orders.proofs.Passing.{raises_none, raises_below, raises_then, repeated_more}
use Rattle.strc_sched_orders.proofs.Passing.{turns_within}
use Rattle.strc_sched_orders.proofs.Overflowing.{passes_if_none}
use Rattle.strc_sched_orders.proofs.peaks.raise_by_passes.Goals as goal

pub loop-turn-init : goal.loop-turn-init
loop-turn-init c =
    raises_none c.args.network.now.channels c.args.counts.now c.args.peaks.now c.requires.known

pub raise_by_list-requires-clause-known : goal.raise_by_list-requires-clause-known
raise_by_list-requires-clause-known c =
    raises_below c.args.network.now.channels (repeated c.loop-turn.turn c.args.nodes.now)
    c.args.counts.now c.args.peaks.now c.loop-turn.counts c.loop-turn.peaks c.loop-turn.invariant

pub loop-turn-preserved : goal.loop-turn-preserved
loop-turn-preserved c =
    let channels = c.args.network.now.channels in
    let nodes = c.args.nodes.now in
    let turn = c.loop-turn.turn in
    subst (λ l. Raises channels l c.args.counts.now c.args.peaks.now c.raise_by_list.new.counts
    c.raise_by_list.new.peaks) (sym (repeated_more turn nodes))
    (raises_then channels (repeated turn nodes) nodes c.args.counts.now c.args.peaks.now
    c.loop-turn.counts c.loop-turn.peaks c.raise_by_list.new.counts c.raise_by_list.new.peaks
    c.loop-turn.invariant c.in_ok-raise_by_list.ensures.raises)

pub returns-in_err-raise_by_list-clause-none : goal.returns-in_err-raise_by_list-clause-none
returns-in_err-raise_by_list-clause-none c =
    let nodes = c.args.nodes.now in
    passes_if_none c.from_residual.result (after (count_at c.loop-turn.counts) nodes)
    (after (count_at c.args.counts.now) (repeated c.args.turns nodes))
    (λ node.
    let e = ap (λ f. f node) c.loop-turn.invariant.counted in
    let t = turns_within c.loop-turn.turn c.args.turns nodes node c.loop-turn-test.true in
    omega (arith, e, t)) c.in_err-raise_by_list.ensures.none
