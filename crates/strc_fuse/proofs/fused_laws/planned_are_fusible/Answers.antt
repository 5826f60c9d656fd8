use Rattle.strc_fuse.proofs.Planned.{planned_are_fusible}
use Rattle.strc_fuse.proofs.fused_laws.planned_are_fusible.Goals as goal

pub returns : goal.returns
returns c = planned_are_fusible
