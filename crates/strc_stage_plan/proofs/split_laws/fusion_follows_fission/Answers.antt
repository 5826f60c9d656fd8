use Rattle.strc_stage_plan.proofs.Fusions.{fusion_follows}
use Rattle.strc_stage_plan.proofs.split_laws.fusion_follows_fission.Goals as goal

pub returns : goal.returns
returns c = fusion_follows
