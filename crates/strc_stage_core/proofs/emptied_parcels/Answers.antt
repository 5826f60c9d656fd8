use Rattle.strc_stage_core.proofs.Rows.{emptied_row}
use Rattle.strc_stage_core.proofs.emptied_parcels.Goals as goal

pub returns : goal.returns
returns c = emptied_row
