use Rattle.strc_sched_laws.proofs.Alike.{identities_alike}
use Rattle.strc_sched_laws.proofs.laws.identities_fire_alike.Goals as goal

pub returns : goal.returns
returns c = identities_alike
