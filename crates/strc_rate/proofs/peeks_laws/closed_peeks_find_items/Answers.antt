use Rattle.strc_rate.proofs.PeeksPromised.{closed_peeks}
use Rattle.strc_rate.proofs.peeks_laws.closed_peeks_find_items.Goals as goal

pub returns : goal.returns
returns c = closed_peeks
