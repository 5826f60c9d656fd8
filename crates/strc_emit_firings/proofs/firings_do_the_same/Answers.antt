use Rattle.strc_emit_firings.proofs.Firing.{firings_do_same}
use Rattle.strc_emit_firings.proofs.firings_do_the_same.Goals as goal

pub returns : goal.returns
returns c = firings_do_same
