use Rattle.strc_emit_meaning.proofs.Codes.{codes_do_same}
use Rattle.strc_emit_meaning.proofs.codes_do_the_same.Goals as goal

pub returns : goal.returns
returns c = codes_do_same
