use Rattle.strc_emit_runs.proofs.Rounds.{startup_goes}
use Rattle.strc_emit_runs.proofs.startup_goes.Goals as goal

pub returns : goal.returns
returns c = startup_goes
