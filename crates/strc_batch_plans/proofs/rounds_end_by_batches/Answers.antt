use Rattle.strc_batch_plans.proofs.Going.{rounds_end_by_batches}
use Rattle.strc_batch_plans.proofs.rounds_end_by_batches.Goals as goal

pub returns : goal.returns
returns c = rounds_end_by_batches
