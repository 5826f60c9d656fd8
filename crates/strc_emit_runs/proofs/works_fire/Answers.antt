use Rattle.strc_emit_runs.proofs.Works.{works_fire}
use Rattle.strc_emit_runs.proofs.works_fire.Goals as goal

pub returns : goal.returns
returns c = works_fire
