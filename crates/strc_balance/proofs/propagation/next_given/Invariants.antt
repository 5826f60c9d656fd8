use Rattle.std.proofs.Common.{◌<◌, length}
use Rattle.strc_balance.specs.Frontiers.{Covers}
use Rattle.strc_balance.specs.NumberSets.{AllNumbers, size_below}
use Rattle.strc_balance.proofs.propagation.next_given.Given as goal

abbrev pub invariant-loop-channel : goal.invariant-loop-channel
invariant-loop-channel l = record {
  covers : Covers l.frontier l.fractions l.equations;
  numbers : AllNumbers (λ channel. channel < length l.equations) l.frontier;
}

abbrev pub decreases-loop-channel : goal.decreases-loop-channel
decreases-loop-channel l = size_below l.frontier (length l.equations)
