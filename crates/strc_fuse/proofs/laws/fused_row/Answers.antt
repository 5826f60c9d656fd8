use Rattle.strc_fuse.proofs.Lawful.{fused_row}
use Rattle.strc_fuse.proofs.laws.fused_row.Goals as goal

pub returns : goal.returns
returns c = fused_row
