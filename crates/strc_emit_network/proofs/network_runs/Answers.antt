use Rattle.strc_emit_network.proofs.Runs.{network_runs}
use Rattle.strc_emit_network.proofs.network_runs.Goals as goal

pub returns : goal.returns
returns c = network_runs
