use Rattle.strc_emit_network.proofs.Ranges.{codes_stay}
use Rattle.strc_emit_network.proofs.codes_stay_in_range.Goals as goal

pub returns : goal.returns
returns c = codes_stay
