use Rattle.strc_emit_meaning.proofs.Computed.{division_row}
use Rattle.strc_emit_meaning.proofs.rows.division_by_zero.Goals as goal

pub returns : goal.returns
returns c = division_row
