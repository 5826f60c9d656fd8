use Rattle.strc_balance.proofs.Examples.{dealt_by_weights}
use Rattle.strc_balance.proofs.laws.dealt_by_weights.Goals as goal

pub returns : goal.returns
returns c = dealt_by_weights
