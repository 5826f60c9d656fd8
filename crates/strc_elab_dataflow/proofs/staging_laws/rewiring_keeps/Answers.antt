use Rattle.strc_elab_dataflow.proofs.Rewired.{rewiring_keeps}
use Rattle.strc_elab_dataflow.proofs.staging_laws.rewiring_keeps.Goals as goal

pub returns : goal.returns
returns g c = rewiring_keeps
