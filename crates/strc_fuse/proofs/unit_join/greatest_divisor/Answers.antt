use Rattle.std.proofs.Common.{arith}
use Rattle.std.proofs.lemmas.Nat.Gcd.{IsGcd-from_zero, IsGcd-from_mod}
use Rattle.strc_fuse.proofs.unit_join.greatest_divisor.Goals as goal

pub loop-lesser-preserved : goal.loop-lesser-preserved
loop-lesser-preserved c g h = c.loop-lesser.invariant g (IsGcd-from_mod _ _ g h)

pub returns : goal.returns
returns c = c.loop-lesser.invariant _ (IsGcd-from_zero _ _ (omega arith))
