use Rattle.strc_stage_steps.proofs.OneStep.{stage_steps_alike}
use Rattle.strc_stage_steps.proofs.ring_laws.stage_steps_alike.Goals as goal

pub returns : goal.returns
returns c = stage_steps_alike
