use Rattle.strc_emit_runs.proofs.PassingSteps.{passing_fires_to}
use Rattle.strc_emit_runs.proofs.passing_fires_to.Goals as goal

pub returns : goal.returns
returns c = passing_fires_to
