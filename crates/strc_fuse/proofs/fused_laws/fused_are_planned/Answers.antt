use Rattle.strc_fuse.proofs.Planned.{fused_are_planned}
use Rattle.strc_fuse.proofs.fused_laws.fused_are_planned.Goals as goal

pub returns : goal.returns
returns c = fused_are_planned
