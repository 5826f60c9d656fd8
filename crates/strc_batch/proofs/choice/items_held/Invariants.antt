use Rattle.std.proofs.Common.{◌≡◌, ◌-◌, ◌^◌, min, sum, take}
use Rattle.strc_batch.proofs.choice.items_held.Given as goal

abbrev pub invariant-loop-size : goal.invariant-loop-size
invariant-loop-size l = l.held ≡ min (sum (take l.size-index l.sizes)) (2 ^ 64 - 1)
