use Rattle.strc_rate.proofs.FilterPeeks.{closed_peeks}
use Rattle.strc_rate.proofs.laws.closed_peeks_never_fault.Goals as goal

pub returns : goal.returns
returns c = closed_peeks
