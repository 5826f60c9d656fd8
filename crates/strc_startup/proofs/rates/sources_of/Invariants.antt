use Rattle.std.proofs.Common.{◌≡◌, take, map}
use Rattle.strc_startup.proofs.rates.sources_of.Given as goal

abbrev pub invariant-loop-rates : goal.invariant-loop-rates
invariant-loop-rates l = l.sources.items
    ≡ map (λ rates. rates.source) (take l.rates-index l.channels)
