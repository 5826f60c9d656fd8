use Rattle.strc_balance.proofs.Examples.{too_many_items}
use Rattle.strc_balance.proofs.laws.too_many_items.Goals as goal

pub returns : goal.returns
returns c = too_many_items
