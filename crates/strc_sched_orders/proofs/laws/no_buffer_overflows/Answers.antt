use Rattle.strc_sched_orders.proofs.Repeating.{no_buffer_overflows}
use Rattle.strc_sched_orders.proofs.laws.no_buffer_overflows.Goals as goal

pub returns : goal.returns
returns c = no_buffer_overflows
