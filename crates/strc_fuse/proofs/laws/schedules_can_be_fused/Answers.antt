use Rattle.strc_fuse.proofs.Lawful.{schedules_can_be_fused}
use Rattle.strc_fuse.proofs.laws.schedules_can_be_fused.Goals as goal

pub returns : goal.returns
returns c = schedules_can_be_fused
