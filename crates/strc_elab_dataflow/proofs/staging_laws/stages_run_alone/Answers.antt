use Rattle.strc_elab_dataflow.proofs.Alone.{stages_run_alone}
use Rattle.strc_elab_dataflow.proofs.staging_laws.stages_run_alone.Goals as goal

pub returns : goal.returns
returns g c = stages_run_alone
