use Rattle.strc_sched_orders.proofs.Runnable.{schedules_are_runnable}
use Rattle.strc_sched_orders.proofs.laws.schedules_are_runnable.Goals as goal

pub returns : goal.returns
returns c = schedules_are_runnable
