use Rattle.strc_balance.proofs.Examples.{prework_left_out}
use Rattle.strc_balance.proofs.laws.prework_left_out.Goals as goal

pub returns : goal.returns
returns c = prework_left_out
