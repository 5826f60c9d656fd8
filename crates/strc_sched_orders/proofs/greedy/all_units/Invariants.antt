use Rattle.std.proofs.Common.{sum_by}
use Rattle.strc_balance.specs.Balance.{count_at}
use Rattle.strc_sched_orders.specs.Progress.{Orders}
use Rattle.strc_sched_orders.proofs.greedy.all_units.Given as goal

abbrev pub invariant-loop-units : goal.invariant-loop-units
invariant-loop-units l = Orders l.network (count_at l.fn.progress.counts)
    (count_at l.fn.progress.left) l.units.items l.progress

abbrev pub decreases-loop-units : goal.decreases-loop-units
decreases-loop-units l = sum_by (λ left. left) l.progress.left
