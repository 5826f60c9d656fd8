use Rattle.strc_emit_runs.proofs.Works.{preworks_fire}
use Rattle.strc_emit_runs.proofs.preworks_fire.Goals as goal

pub returns : goal.returns
returns c = preworks_fire
