use Rattle.strc_emit_firings.proofs.HelperCalls.{helpers_do_same}
use Rattle.strc_emit_firings.proofs.helpers_do_the_same.Goals as goal

pub returns : goal.returns
returns c = helpers_do_same
