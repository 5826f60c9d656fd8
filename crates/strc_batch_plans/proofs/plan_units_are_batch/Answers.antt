use Rattle.strc_batch_plans.proofs.Plans.{plan_units_are_batch}
use Rattle.strc_batch_plans.proofs.plan_units_are_batch.Goals as goal

pub returns : goal.returns
returns c = plan_units_are_batch
