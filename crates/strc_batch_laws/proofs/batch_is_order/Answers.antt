use Rattle.strc_batch_laws.proofs.Batch.{batch_law}
use Rattle.strc_batch_laws.proofs.batch_is_order.Goals as goal

pub returns : goal.returns
returns g c = batch_law
