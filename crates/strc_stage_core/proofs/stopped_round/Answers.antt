use Rattle.strc_stage_core.proofs.Rows.{stopped_row}
use Rattle.strc_stage_core.proofs.stopped_round.Goals as goal

pub returns : goal.returns
returns c = stopped_row
