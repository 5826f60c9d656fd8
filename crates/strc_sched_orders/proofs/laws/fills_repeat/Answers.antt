use Rattle.strc_sched_orders.proofs.Repeating.{fills_repeat}
use Rattle.strc_sched_orders.proofs.laws.fills_repeat.Goals as goal

pub returns : goal.returns
returns c = fills_repeat
