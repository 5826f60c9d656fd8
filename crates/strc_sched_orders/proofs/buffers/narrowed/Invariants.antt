use Rattle.std.proofs.Common.{◌≡◌, take}
use Rattle.strc_sched_orders.proofs.buffers.narrowed.Given as goal

abbrev pub invariant-loop-number : goal.invariant-loop-number
invariant-loop-number l = l.narrowed.items ≡ take l.number-index l.numbers
