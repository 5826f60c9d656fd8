use Rattle.strc_emit_meaning.proofs.Computed.{sum_wraps_row}
use Rattle.strc_emit_meaning.proofs.rows.sum_wraps.Goals as goal

pub returns : goal.returns
returns c = sum_wraps_row
