use Rattle.strc_stage_weights.proofs.Rows.{weighed_row}
use Rattle.strc_stage_weights.proofs.laws.weighed_row.Goals as goal

pub returns : goal.returns
returns c = weighed_row
