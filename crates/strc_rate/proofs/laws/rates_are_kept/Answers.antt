use Rattle.strc_rate.proofs.KeptRates.{rates_kept}
use Rattle.strc_rate.proofs.laws.rates_are_kept.Goals as goal

pub returns : goal.returns
returns c = rates_kept
