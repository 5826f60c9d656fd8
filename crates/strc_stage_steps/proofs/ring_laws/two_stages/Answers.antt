use Rattle.strc_stage_steps.proofs.Rows.{two_stages_row}
use Rattle.strc_stage_steps.proofs.ring_laws.two_stages.Goals as goal

pub returns : goal.returns
returns c = two_stages_row
