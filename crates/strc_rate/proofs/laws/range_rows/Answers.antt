use Rattle.strc_rate.proofs.WorkedRanges.{rows_compute}
use Rattle.strc_rate.proofs.laws.range_rows.Goals as goal

pub returns : goal.returns
returns c = rows_compute
