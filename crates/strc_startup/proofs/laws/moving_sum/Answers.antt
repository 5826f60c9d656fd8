use Rattle.strc_startup.proofs.Examples.{moving_sum}
use Rattle.strc_startup.proofs.laws.moving_sum.Goals as goal

pub returns : goal.returns
returns c = moving_sum
