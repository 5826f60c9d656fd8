use Rattle.strc_emit_network.proofs.Taken.{rounds_take}
use Rattle.strc_emit_network.proofs.rounds_take.Goals as goal

pub returns : goal.returns
returns c = rounds_take
