use Rattle.strc_emit_meaning.proofs.Erasing.{untested_same}
use Rattle.strc_emit_meaning.proofs.untested_do_the_same.Goals as goal

pub returns : goal.returns
returns c = untested_same
