use Rattle.strc_emit_plans.proofs.Calls.{orders_are_called}
use Rattle.strc_emit_plans.proofs.orders_are_called.Goals as goal

pub returns : goal.returns
returns c = orders_are_called
