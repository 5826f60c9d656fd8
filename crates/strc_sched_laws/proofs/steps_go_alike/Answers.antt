use Rattle.strc_sched_laws.proofs.OrdersAlike.{steps_go_alike}
use Rattle.strc_sched_laws.proofs.steps_go_alike.Goals as goal

pub returns : goal.returns
returns c = steps_go_alike
