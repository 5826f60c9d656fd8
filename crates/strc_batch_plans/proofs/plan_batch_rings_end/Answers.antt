use Rattle.strc_batch_plans.proofs.Plans.{plan_batch_rings_end}
use Rattle.strc_batch_plans.proofs.plan_batch_rings_end.Goals as goal

pub returns : goal.returns
returns c = plan_batch_rings_end
