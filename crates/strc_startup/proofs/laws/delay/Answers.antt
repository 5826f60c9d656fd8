use Rattle.strc_startup.proofs.Examples.{delay}
use Rattle.strc_startup.proofs.laws.delay.Goals as goal

pub returns : goal.returns
returns c = delay
