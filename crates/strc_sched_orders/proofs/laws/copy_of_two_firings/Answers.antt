use Rattle.strc_sched_orders.proofs.CopyPeaks.{copy_of_two_firings}
use Rattle.strc_sched_orders.proofs.laws.copy_of_two_firings.Goals as goal

pub returns : goal.returns
returns c = copy_of_two_firings
