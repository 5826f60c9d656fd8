use Rattle.strc_stage_weights.proofs.Rows.{firing_row}
use Rattle.strc_stage_weights.proofs.laws.firing_row.Goals as goal

pub returns : goal.returns
returns c = firing_row
