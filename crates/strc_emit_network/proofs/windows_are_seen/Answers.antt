use Rattle.strc_emit_network.proofs.Seen.{windows_are_seen}
use Rattle.strc_emit_network.proofs.windows_are_seen.Goals as goal

pub returns : goal.returns
returns c = windows_are_seen
