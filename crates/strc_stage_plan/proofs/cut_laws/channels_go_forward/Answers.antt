use Rattle.strc_stage_plan.proofs.Forward.{channels_go_forward}
use Rattle.strc_stage_plan.proofs.cut_laws.channels_go_forward.Goals as goal

pub returns : goal.returns
returns c = channels_go_forward
