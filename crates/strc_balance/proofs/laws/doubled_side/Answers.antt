use Rattle.strc_balance.proofs.Examples.{doubled_side}
use Rattle.strc_balance.proofs.laws.doubled_side.Goals as goal

pub returns : goal.returns
returns c = doubled_side
