use Rattle.strc_elab_dataflow.proofs.RestartChains.{restarted_is_staging}
use Rattle.strc_elab_dataflow.proofs.restart_laws.restarted_is_staging.Goals as goal

pub returns : goal.returns
returns g c = restarted_is_staging
