use Rattle.strc_sched_orders.specs.Order.{repeated}
use Rattle.strc_sched_orders.specs.Peaks.{Raises}
use Rattle.strc_sched_orders.proofs.peaks.raise_by_passes.Given as goal

abbrev pub invariant-loop-turn : goal.invariant-loop-turn
invariant-loop-turn l =
    Raises l.network.channels (repeated l.turn l.nodes) l.fn.counts l.fn.peaks l.counts l.peaks
