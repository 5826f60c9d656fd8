use Rattle.strc_emit_runs.proofs.WorkSteps.{work_fires_to}
use Rattle.strc_emit_runs.proofs.work_fires_to.Goals as goal

pub returns : goal.returns
returns c = work_fires_to
