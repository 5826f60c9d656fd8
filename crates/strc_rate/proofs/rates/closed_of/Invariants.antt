use Rattle.std.proofs.Common.{◌≡◌, take, map}
use Rattle.strc_rate.specs.Peeks.{is_closed}
use Rattle.strc_rate.proofs.rates.closed_of.Given as goal

abbrev pub invariant-loop-sight : goal.invariant-loop-sight
invariant-loop-sight l = l.closed.items ≡ map is_closed (take l.sight-index l.sights)
