use Rattle.strc_balance.specs.Balance.{count_at}
use Rattle.strc_sched_orders.proofs.Turning.{Turns}
use Rattle.strc_sched_orders.proofs.turns.turns_at.Given as goal

abbrev pub invariant-loop-number : goal.invariant-loop-number
invariant-loop-number l = Turns l.network (count_at l.counts) l.node l.limit l.turns l.number-index
