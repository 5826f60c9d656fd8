use Rattle.strc_batch_laws.proofs.Done.{rounds_law}
use Rattle.strc_batch_laws.proofs.batches_are_rounds.Goals as goal

pub returns : goal.returns
returns g c = rounds_law
