use Rattle.strc_stage_steps.proofs.DealtRows.{dealt_row}
use Rattle.strc_stage_steps.proofs.laws.dealt_row.Goals as goal

pub returns : goal.returns
returns c = dealt_row
