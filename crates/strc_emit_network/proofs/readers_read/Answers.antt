use Rattle.strc_emit_network.proofs.Readers.{readers_read}
use Rattle.strc_emit_network.proofs.readers_read.Goals as goal

pub returns : goal.returns
returns c = readers_read
