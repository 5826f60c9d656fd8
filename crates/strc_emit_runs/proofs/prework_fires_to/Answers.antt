use Rattle.strc_emit_runs.proofs.WorkSteps.{prework_fires_to}
use Rattle.strc_emit_runs.proofs.prework_fires_to.Goals as goal

pub returns : goal.returns
returns c = prework_fires_to
