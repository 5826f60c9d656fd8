use Rattle.strc_elab_dataflow.proofs.Keeping.{stage_goes}
use Rattle.strc_elab_dataflow.proofs.staging_laws.stage_goes.Goals as goal

pub returns : goal.returns
returns g c = stage_goes
