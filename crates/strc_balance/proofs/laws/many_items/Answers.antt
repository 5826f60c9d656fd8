use Rattle.strc_balance.proofs.Examples.{many_items}
use Rattle.strc_balance.proofs.laws.many_items.Goals as goal

pub returns : goal.returns
returns c = many_items
