use Rattle.strc_batch_plans.proofs.Rings.{batches_are_running}
use Rattle.strc_batch_plans.proofs.batches_are_running.Goals as goal

pub returns : goal.returns
returns c = batches_are_running
