use Rattle.std.proofs.Common.{◌≡◌, None, replicate}
use Rattle.strc_stage_steps.proofs.empty_ring.empty_hands.Given as goal

abbrev pub invariant-loop : goal.invariant-loop
invariant-loop l = l.hands.items ≡ replicate l.counter None
