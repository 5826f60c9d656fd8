use Rattle.std.proofs.Common.{ℕ}
use Rattle.std.specs.Int.{IsGcd}
use Rattle.strc_fuse.proofs.unit_join.greatest_divisor.Given as goal

abbrev pub invariant-loop-lesser : goal.invariant-loop-lesser
invariant-loop-lesser l = (g : ℕ) → IsGcd l.greater l.lesser g → IsGcd l.fn.first l.fn.second g

abbrev pub decreases-loop-lesser : goal.decreases-loop-lesser
decreases-loop-lesser l = l.lesser
