use Rattle.strc_rate.proofs.FilterPeeks.{each_entry}
use Rattle.strc_rate.proofs.laws.each_peek_has_an_entry.Goals as goal

pub returns : goal.returns
returns c = each_entry
