use Rattle.strc_sched_orders.proofs.CopyPeaks.{copies_pop_by_round}
use Rattle.strc_sched_orders.proofs.laws.copies_pop_by_round.Goals as goal

pub returns : goal.returns
returns c = copies_pop_by_round
