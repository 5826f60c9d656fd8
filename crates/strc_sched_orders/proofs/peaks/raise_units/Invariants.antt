use Rattle.std.proofs.Common.{take}
use Rattle.strc_sched_orders.specs.Greedy.{firings_of}
use Rattle.strc_sched_orders.specs.Peaks.{Raises}
use Rattle.strc_sched_orders.proofs.peaks.raise_units.Given as goal

abbrev pub invariant-loop-unit : goal.invariant-loop-unit
invariant-loop-unit l =
    Raises l.network.channels (firings_of (take l.unit-index l.units)) l.fn.counts l.fn.peaks
    l.counts l.peaks
