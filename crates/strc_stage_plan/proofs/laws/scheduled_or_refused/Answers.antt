use Rattle.strc_stage_plan.proofs.Exclusion.{scheduled_or_refused}
use Rattle.strc_stage_plan.proofs.laws.scheduled_or_refused.Goals as goal

pub returns : goal.returns
returns c = scheduled_or_refused c.greedy_is_an_order.ensures c.one_greedy_order.ensures
