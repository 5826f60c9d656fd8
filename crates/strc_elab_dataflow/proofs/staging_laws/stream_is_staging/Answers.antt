use Rattle.strc_elab_dataflow.proofs.Rewired.{stream_is_staging}
use Rattle.strc_elab_dataflow.proofs.staging_laws.stream_is_staging.Goals as goal

pub returns : goal.returns
returns g c = stream_is_staging
