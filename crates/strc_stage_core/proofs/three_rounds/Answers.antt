use Rattle.strc_stage_core.proofs.Rows.{three_rounds_row}
use Rattle.strc_stage_core.proofs.three_rounds.Goals as goal

pub returns : goal.returns
returns c = three_rounds_row
