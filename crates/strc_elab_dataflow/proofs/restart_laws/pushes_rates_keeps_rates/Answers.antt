use Rattle.strc_elab_dataflow.proofs.RestartRates.{pushes_rates_keeps_rates}
use Rattle.strc_elab_dataflow.proofs.restart_laws.pushes_rates_keeps_rates.Goals as goal

pub returns : goal.returns
returns g c = pushes_rates_keeps_rates
