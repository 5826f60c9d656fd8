use Rattle.strc_sched_orders.proofs.PastPrework.{all_past_prework}
use Rattle.strc_sched_orders.proofs.laws.primed_counts_are_past_prework.Goals as goal

pub returns : goal.returns
returns c = all_past_prework
