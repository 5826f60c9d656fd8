use Rattle.strc_elab_dataflow.proofs.Keeping.{step_keeps}
use Rattle.strc_elab_dataflow.proofs.staging_laws.step_keeps.Goals as goal

pub returns : goal.returns
returns g c = step_keeps
