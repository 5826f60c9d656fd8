use Rattle.strc_sched_orders.proofs.Continuing.{RaisedFirst}
use Rattle.strc_sched_orders.proofs.buffer_sizes.peaks_from.Given as goal

abbrev pub invariant-loop-channel : goal.invariant-loop-channel
invariant-loop-channel l = RaisedFirst l.network.channels l.before l.peaks.items l.channel
