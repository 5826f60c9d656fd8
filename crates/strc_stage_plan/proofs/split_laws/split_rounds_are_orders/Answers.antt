use Rattle.strc_stage_plan.proofs.RoundOrders.{split_rounds_are}
use Rattle.strc_stage_plan.proofs.split_laws.split_rounds_are_orders.Goals as goal

pub returns : goal.returns
returns c = split_rounds_are
