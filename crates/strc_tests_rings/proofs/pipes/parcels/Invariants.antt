use Rattle.std.proofs.Common.{◌≡◌, length}
use Rattle.strc_tests_rings.proofs.pipes.parcels.Given as goal

abbrev pub invariant-loop : goal.invariant-loop
invariant-loop l = length l.parcels.items ≡ l.counter
