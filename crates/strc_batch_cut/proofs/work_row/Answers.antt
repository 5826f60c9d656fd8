use Rattle.strc_batch_cut.proofs.Weighed.{work_row}
use Rattle.strc_batch_cut.proofs.work_row.Goals as goal

pub returns : goal.returns
returns c = work_row
