use Rattle.strc_sched_machine.proofs.Wanting.{quiet_order}
use Rattle.strc_sched_machine.proofs.laws.quiet_orders_want_no_memory.Goals as goal

pub returns : goal.returns
returns c = quiet_order
