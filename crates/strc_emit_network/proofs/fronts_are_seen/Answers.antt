use Rattle.strc_emit_network.proofs.Seen.{fronts_are_seen}
use Rattle.strc_emit_network.proofs.fronts_are_seen.Goals as goal

pub returns : goal.returns
returns c = fronts_are_seen
