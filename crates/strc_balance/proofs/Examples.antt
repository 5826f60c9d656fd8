-- What the examples' counts are, by computing them.
use Rattle.std.proofs.Common.{refl}
use Rattle.strc_balance.specs.Divisors.{divisor, multiple, lowest_terms}
use Rattle.strc_balance.specs.Examples.{ChangedRates, PreworkLeftOut, ManyItems, TooManyItems}
use Rattle.strc_balance.specs.Examples.{DealtByWeights, DoubledSide}

pub changed_rates : ChangedRates
unfolding divisor multiple lowest_terms
changed_rates = refl

pub prework_left_out : PreworkLeftOut
unfolding divisor multiple lowest_terms
prework_left_out = refl

pub many_items : ManyItems
unfolding divisor multiple lowest_terms
many_items = refl

pub too_many_items : TooManyItems
unfolding divisor multiple lowest_terms
too_many_items = refl

pub dealt_by_weights : DealtByWeights
unfolding divisor multiple lowest_terms
dealt_by_weights = refl

pub doubled_side : DoubledSide
unfolding divisor multiple lowest_terms
doubled_side = refl
