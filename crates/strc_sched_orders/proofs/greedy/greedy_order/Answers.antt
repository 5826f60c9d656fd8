use Rattle.std.proofs.Common.{refl}
use Rattle.std.proofs.lemmas.Bool.{false≢true}
use Rattle.strc_sched_orders.proofs.Ordering.{whole_order, none_left}
use Rattle.strc_sched_orders.proofs.greedy.greedy_order.Goals as goal

pub returns-then-is_done-clause-greedy : goal.returns-then-is_done-clause-greedy
returns-then-is_done-clause-greedy c =
    whole_order c.args.network.now c.args.counts.now c.args.firings.now c.in_ok-progress.progress
    c.all_units.new.progress c.in_ok-units.units.items c.in_ok-progress.ensures
    c.in_ok-units.ensures (c.if-is_done.ensures.0 refl)

pub returns-clause-none : goal.returns-clause-none
returns-clause-none c order =
    absurd (false≢true (c.if-is_done.ensures.1 (none_left c.args.network.now c.args.counts.now
    c.args.firings.now c.in_ok-progress.progress c.all_units.new.progress
    c.in_ok-units.units.items c.in_ok-progress.ensures c.in_ok-units.ensures order)))
