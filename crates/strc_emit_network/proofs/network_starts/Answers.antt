use Rattle.strc_emit_network.proofs.Runs.{network_starts}
use Rattle.strc_emit_network.proofs.network_starts.Goals as goal

pub returns : goal.returns
returns c = network_starts
