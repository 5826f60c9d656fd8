use Rattle.strc_sched_orders.proofs.GoingOn.{limits_go_on}
use Rattle.strc_sched_orders.proofs.laws.limits_go_on.Goals as goal

pub returns : goal.returns
returns c = limits_go_on
