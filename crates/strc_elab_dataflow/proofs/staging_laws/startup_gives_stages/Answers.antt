use Rattle.strc_elab_dataflow.proofs.Collecting.{startup_gives_stages}
use Rattle.strc_elab_dataflow.proofs.staging_laws.startup_gives_stages.Goals as goal

pub returns : goal.returns
returns g c = startup_gives_stages
