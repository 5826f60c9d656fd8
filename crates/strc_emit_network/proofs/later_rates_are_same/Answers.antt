use Rattle.strc_emit_network.proofs.Later.{later_rates_are_same}
use Rattle.strc_emit_network.proofs.later_rates_are_same.Goals as goal

pub returns : goal.returns
returns c = later_rates_are_same
