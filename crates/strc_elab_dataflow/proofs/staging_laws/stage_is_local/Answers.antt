use Rattle.strc_elab_dataflow.proofs.Rewired.{stage_is_local}
use Rattle.strc_elab_dataflow.proofs.staging_laws.stage_is_local.Goals as goal

pub returns : goal.returns
returns g c = stage_is_local
