use Rattle.strc_rate.proofs.WorkedRows.{rows_compute}
use Rattle.strc_rate.proofs.stateless_laws.stateless_rows.Goals as goal

pub returns : goal.returns
returns c = rows_compute
