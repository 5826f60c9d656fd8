use Rattle.strc_emit_runs.proofs.Steps.{steps_show}
use Rattle.strc_emit_runs.proofs.steps_show.Goals as goal

pub returns : goal.returns
returns c = steps_show
