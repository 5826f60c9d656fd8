use Rattle.std.proofs.Common.{◌≡◌, take, map}
use Rattle.strc_startup.proofs.rates.targets_of.Given as goal

abbrev pub invariant-loop-rates : goal.invariant-loop-rates
invariant-loop-rates l = l.targets.items
    ≡ map (λ rates. rates.target) (take l.rates-index l.channels)
