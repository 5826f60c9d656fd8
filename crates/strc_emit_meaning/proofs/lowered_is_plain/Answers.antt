use Rattle.strc_emit_meaning.proofs.Lowered.{lowered_is_plain}
use Rattle.strc_emit_meaning.proofs.lowered_is_plain.Goals as goal

pub returns : goal.returns
returns c = lowered_is_plain
