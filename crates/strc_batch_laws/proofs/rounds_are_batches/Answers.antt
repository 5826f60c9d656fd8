use Rattle.strc_batch_laws.proofs.Done.{ends_law}
use Rattle.strc_batch_laws.proofs.rounds_are_batches.Goals as goal

pub returns : goal.returns
returns g c = ends_law
