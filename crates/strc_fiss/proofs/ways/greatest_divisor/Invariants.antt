use Rattle.std.proofs.Common.{◌-◌, ◌≡◌}
use Rattle.strc_fiss.specs.Ways.{greatest_divisor}
use Rattle.strc_fiss.proofs.ways.greatest_divisor.Given as goal

abbrev pub invariant-loop-divisor : goal.invariant-loop-divisor
invariant-loop-divisor l = greatest_divisor l.count l.divisor ≡ greatest_divisor l.count l.most

abbrev pub decreases-loop-divisor : goal.decreases-loop-divisor
decreases-loop-divisor l = l.divisor - 1
