use Rattle.strc_sched_orders.proofs.Ranges.{ranges_fire_in_turn}
use Rattle.strc_sched_orders.proofs.laws.ranges_fire_in_turn.Goals as goal

pub returns : goal.returns
returns c = ranges_fire_in_turn
