use Rattle.strc_rate.proofs.PeeksPromised.{each_entry}
use Rattle.strc_rate.proofs.peeks_laws.each_peek_has_an_entry.Goals as goal

pub returns : goal.returns
returns c = each_entry
