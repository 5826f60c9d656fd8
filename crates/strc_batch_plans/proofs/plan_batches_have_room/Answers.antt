use Rattle.strc_batch_plans.proofs.Plans.{plan_batches_have_room}
use Rattle.strc_batch_plans.proofs.plan_batches_have_room.Goals as goal

pub returns : goal.returns
returns c = plan_batches_have_room
