use Rattle.strc_batch_plans.proofs.Going.{batches_go_on}
use Rattle.strc_batch_plans.proofs.batches_go_on.Goals as goal

pub returns : goal.returns
returns c = batches_go_on
