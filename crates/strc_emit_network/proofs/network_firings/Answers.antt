use Rattle.strc_emit_network.proofs.Firings.{network_firings}
use Rattle.strc_emit_network.proofs.network_firings.Goals as goal

pub returns : goal.returns
returns c = network_firings
