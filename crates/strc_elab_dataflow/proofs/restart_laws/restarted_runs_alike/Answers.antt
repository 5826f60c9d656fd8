use Rattle.strc_elab_dataflow.proofs.Restart.{runs_alike}
use Rattle.strc_elab_dataflow.proofs.restart_laws.restarted_runs_alike.Goals as goal

pub returns : goal.returns
returns g c = runs_alike
