use Rattle.strc_balance.proofs.Examples.{changed_rates}
use Rattle.strc_balance.proofs.laws.changed_rates.Goals as goal

pub returns : goal.returns
returns c = changed_rates
