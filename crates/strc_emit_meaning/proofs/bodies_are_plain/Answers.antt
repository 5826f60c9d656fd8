use Rattle.strc_emit_meaning.proofs.Lowered.{bodies_are_plain}
use Rattle.strc_emit_meaning.proofs.bodies_are_plain.Goals as goal

pub returns : goal.returns
returns c = bodies_are_plain
