use Rattle.strc_fuse.proofs.Exclusion.{fused_or_refused}
use Rattle.strc_fuse.proofs.fused_laws.fused_or_refused.Goals as goal

pub returns : goal.returns
returns c = fused_or_refused
