use Rattle.std.proofs.Common.{sym, ap, subst, ◌∷◌, [], take, get_or, arith}
use Rattle.strc_balance.specs.Balance.{count_at}
use Rattle.strc_sched_orders.specs.Order.{after}
use Rattle.strc_sched_orders.specs.Peaks.{Raises}
use Rattle.strc_sched_orders.proofs.Passing.{raises_none, raises_below, raises_then}
use Rattle.strc_sched_orders.proofs.Passing.{list_more, list_within}
use Rattle.strc_sched_orders.proofs.Overflowing.{passes_if_none}
use Rattle.strc_sched_orders.proofs.peaks.raise_by_list.Goals as goal

pub loop-node-init : goal.loop-node-init
loop-node-init c =
    raises_none c.args.network.now.channels c.args.counts.now c.args.peaks.now c.requires.known

pub raise_by_turns-requires-clause-known : goal.raise_by_turns-requires-clause-known
raise_by_turns-requires-clause-known c =
    raises_below c.args.network.now.channels (take c.loop-node.node-index c.args.nodes.now)
    c.args.counts.now c.args.peaks.now c.loop-node.counts c.loop-node.peaks c.loop-node.invariant

pub loop-node-preserved : goal.loop-node-preserved
loop-node-preserved c =
    let channels = c.args.network.now.channels in
    let nodes = c.args.nodes.now in
    let i = c.loop-node.node-index in
    let node = get_or nodes i 0 in
    subst (λ l. Raises channels l c.args.counts.now c.args.peaks.now c.raise_by_turns.new.counts
    c.raise_by_turns.new.peaks) (sym (list_more nodes i c.loop-node-test.true))
    (raises_then channels (take i nodes) (node ∷ []) c.args.counts.now c.args.peaks.now
    c.loop-node.counts c.loop-node.peaks c.raise_by_turns.new.counts c.raise_by_turns.new.peaks
    c.loop-node.invariant c.in_ok-raise_by_turns.ensures.raises)

pub returns-in_err-raise_by_turns-clause-none : goal.returns-in_err-raise_by_turns-clause-none
returns-in_err-raise_by_turns-clause-none c =
    let nodes = c.args.nodes.now in
    let i = c.loop-node.node-index in
    passes_if_none c.from_residual.result
    (after (count_at c.loop-node.counts) (get_or nodes i 0 ∷ []))
    (after (count_at c.args.counts.now) nodes)
    (λ node.
    let e = ap (λ f. f node) c.loop-node.invariant.counted in
    let t = list_within nodes i node c.loop-node-test.true in
    omega (arith, e, t)) c.in_err-raise_by_turns.ensures.none
