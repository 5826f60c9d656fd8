use Rattle.strc_emit_meaning.proofs.Computed.{counter_row}
use Rattle.strc_emit_meaning.proofs.rows.counter_overflows.Goals as goal

pub returns : goal.returns
returns c = counter_row
