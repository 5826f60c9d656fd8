use Rattle.strc_emit_bodies.proofs.Fires.{texts_fire}
use Rattle.strc_emit_bodies.proofs.filter_texts_fire.Goals as goal

pub returns : goal.returns
returns c = texts_fire
