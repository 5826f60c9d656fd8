use Rattle.strc_rate.proofs.PeeksPromised.{counted_items}
use Rattle.strc_rate.proofs.peeks_laws.counted_items_are_moved.Goals as goal

pub returns : goal.returns
returns c = counted_items
