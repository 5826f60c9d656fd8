use Rattle.std.proofs.Common.{◌≡◌, drop}
use Rattle.strc_rate.specs.Rates.{some_outside}
use Rattle.strc_rate.proofs.rates.some_outside.Given as goal

abbrev pub invariant-loop-sight : goal.invariant-loop-sight
invariant-loop-sight l = some_outside (drop l.sight-index l.sights) ≡ some_outside l.sights
