use Rattle.strc_batch_laws.proofs.Row.{batches_row}
use Rattle.strc_batch_laws.proofs.batches_row.Goals as goal

pub returns : goal.returns
returns c = batches_row
