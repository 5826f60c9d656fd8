use Rattle.strc_emit_network.proofs.Nodes.{takes_are_there}
use Rattle.strc_emit_network.proofs.takes_are_there.Goals as goal

pub returns : goal.returns
returns c = takes_are_there
