use Rattle.strc_stage_steps.proofs.Alike.{stages_run_alike}
use Rattle.strc_stage_steps.proofs.ring_laws.stages_run_alike.Goals as goal

pub returns : goal.returns
returns c = stages_run_alike
