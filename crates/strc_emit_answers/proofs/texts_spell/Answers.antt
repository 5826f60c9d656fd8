use Rattle.strc_emit_answers.proofs.Spelled.{texts_spell}
use Rattle.strc_emit_answers.proofs.texts_spell.Goals as goal

pub returns : goal.returns
returns c = texts_spell
