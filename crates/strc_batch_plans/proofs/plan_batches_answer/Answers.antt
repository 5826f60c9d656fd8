use Rattle.strc_batch_plans.proofs.Plans.{plan_batches_answer}
use Rattle.strc_batch_plans.proofs.plan_batches_answer.Goals as goal

pub returns : goal.returns
returns c = plan_batches_answer
