use Rattle.strc_sched_laws.proofs.Alike.{filters_alike}
use Rattle.strc_sched_laws.proofs.laws.stateless_filters_fire_alike.Goals as goal

pub returns : goal.returns
returns c = filters_alike
