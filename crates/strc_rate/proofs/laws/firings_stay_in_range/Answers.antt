use Rattle.strc_rate.proofs.Firings.{firings_stay}
use Rattle.strc_rate.proofs.laws.firings_stay_in_range.Goals as goal

pub returns : goal.returns
returns c = firings_stay
