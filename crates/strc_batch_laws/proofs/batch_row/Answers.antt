use Rattle.strc_batch_laws.proofs.Row.{batch_row}
use Rattle.strc_batch_laws.proofs.batch_row.Goals as goal

pub returns : goal.returns
returns c = batch_row
