use Rattle.std.proofs.Common.{take}
use Rattle.strc_sched_orders.specs.Peaks.{Raises}
use Rattle.strc_sched_orders.proofs.peaks.raise_by_list.Given as goal

abbrev pub invariant-loop-node : goal.invariant-loop-node
invariant-loop-node l =
    Raises l.network.channels (take l.node-index l.nodes) l.fn.counts l.fn.peaks l.counts l.peaks
