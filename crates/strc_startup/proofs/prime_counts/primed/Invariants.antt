use Rattle.std.proofs.Common.{◌+◌, ◌*◌, length}
use Rattle.strc_balance.specs.NumberSets.{size_below}
use Rattle.strc_startup.specs.Raises.{room}
use Rattle.strc_startup.proofs.Nearing.{Nears}
use Rattle.strc_startup.proofs.prime_counts.primed.Given as goal

abbrev pub invariant-loop-node : goal.invariant-loop-node
invariant-loop-node l = Nears l.fn.first.items l.channels l.counts.items l.waiting

abbrev pub decreases-loop-node : goal.decreases-loop-node
decreases-loop-node l = 2 * room l.counts.items + size_below l.waiting (length l.counts.items)
