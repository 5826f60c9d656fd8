use Rattle.strc_sched_orders.proofs.Continuing.{raised_on}
use Rattle.strc_sched_orders.proofs.laws.sizes_go_on.Goals as goal

pub returns : goal.returns
returns c = raised_on
