use Rattle.strc_emit_answers.proofs.Fires.{fires_spell}
use Rattle.strc_emit_answers.proofs.fires_spell.Goals as goal

pub returns : goal.returns
returns c = fires_spell
