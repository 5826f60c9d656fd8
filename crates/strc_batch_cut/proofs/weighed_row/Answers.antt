use Rattle.strc_batch_cut.proofs.Weighed.{weighed_row}
use Rattle.strc_batch_cut.proofs.weighed_row.Goals as goal

pub returns : goal.returns
returns c = weighed_row
