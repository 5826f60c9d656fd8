use Rattle.strc_batch_laws.proofs.Fills.{fill_law}
use Rattle.strc_batch_laws.proofs.batches_fill_alike.Goals as goal

pub returns : goal.returns
returns g c = fill_law
