use Rattle.strc_sched_orders.proofs.Runnable.{raised_are_sizes}
use Rattle.strc_sched_orders.proofs.laws.raised_are_sizes.Goals as goal

pub returns : goal.returns
returns c = raised_are_sizes
