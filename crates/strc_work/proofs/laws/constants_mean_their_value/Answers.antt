use Rattle.strc_work.proofs.Numbers.{constant_means}
use Rattle.strc_work.proofs.laws.constants_mean_their_value.Goals as goal

pub returns : goal.returns
returns c = constant_means
