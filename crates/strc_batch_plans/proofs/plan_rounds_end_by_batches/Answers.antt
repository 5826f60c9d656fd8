use Rattle.strc_batch_plans.proofs.Plans.{plan_rounds_end_by_batches}
use Rattle.strc_batch_plans.proofs.plan_rounds_end_by_batches.Goals as goal

pub returns : goal.returns
returns c = plan_rounds_end_by_batches
