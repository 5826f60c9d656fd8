use Rattle.strc_fuse.proofs.Lawful.{fused_units_stay}
use Rattle.strc_fuse.proofs.laws.fused_units_stay.Goals as goal

pub returns : goal.returns
returns c = fused_units_stay
