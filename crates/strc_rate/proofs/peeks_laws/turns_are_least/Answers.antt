use Rattle.strc_rate.proofs.CountedLoops.{turns_least}
use Rattle.strc_rate.proofs.peeks_laws.turns_are_least.Goals as goal

pub returns : goal.returns
returns c = turns_least
