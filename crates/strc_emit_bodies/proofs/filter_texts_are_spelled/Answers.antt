use Rattle.strc_emit_bodies.proofs.Written.{texts_are_spelled}
use Rattle.strc_emit_bodies.proofs.filter_texts_are_spelled.Goals as goal

pub returns : goal.returns
returns c = texts_are_spelled
