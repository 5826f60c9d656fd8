use Rattle.strc_fuse.proofs.OneFusion.{nothing_fused}
use Rattle.strc_fuse.proofs.laws.nothing_fused.Goals as goal

pub returns : goal.returns
returns c = nothing_fused
