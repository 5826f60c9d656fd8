use Rattle.strc_fuse.proofs.OneFusion.{one_fusion}
use Rattle.strc_fuse.proofs.laws.one_fusion.Goals as goal

pub returns : goal.returns
returns c = one_fusion
