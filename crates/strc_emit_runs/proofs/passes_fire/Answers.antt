use Rattle.strc_emit_runs.proofs.Passes.{passes_fire}
use Rattle.strc_emit_runs.proofs.passes_fire.Goals as goal

pub returns : goal.returns
returns c = passes_fire
