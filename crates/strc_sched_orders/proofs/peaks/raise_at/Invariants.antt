use Rattle.strc_balance.specs.Balance.{count_at}
use Rattle.strc_sched_orders.proofs.Touching.{Touches}
use Rattle.strc_sched_orders.proofs.peaks.raise_at.Given as goal

abbrev pub invariant-loop-number : goal.invariant-loop-number
invariant-loop-number l = Touches l.network.channels l.numbers
    (count_at l.counts) l.fn.peaks l.peaks
    l.number-index
