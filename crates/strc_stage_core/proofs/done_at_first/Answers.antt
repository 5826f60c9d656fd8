use Rattle.strc_stage_core.proofs.Rows.{done_row}
use Rattle.strc_stage_core.proofs.done_at_first.Goals as goal

pub returns : goal.returns
returns c = done_row
