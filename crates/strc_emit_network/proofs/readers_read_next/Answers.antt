use Rattle.strc_emit_network.proofs.Nodes.{readers_read_next}
use Rattle.strc_emit_network.proofs.readers_read_next.Goals as goal

pub returns : goal.returns
returns c = readers_read_next
