use Rattle.strc_elab_dataflow.proofs.RestartChains.{restarted_chains}
use Rattle.strc_elab_dataflow.proofs.restart_laws.restarted_chains.Goals as goal

pub returns : goal.returns
returns g c = restarted_chains
