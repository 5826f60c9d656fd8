use Rattle.strc_emit_answers.proofs.Answers.{plans_spell}
use Rattle.strc_emit_answers.proofs.plans_spell.Goals as goal

pub returns : goal.returns
returns c = plans_spell
