use Rattle.strc_emit_answers.proofs.Fires.{fire_row}
use Rattle.strc_emit_answers.proofs.fire_row.Goals as goal

pub returns : goal.returns
returns c = fire_row
