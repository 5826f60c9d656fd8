use Rattle.strc_emit_answers.proofs.Orders.{orders_spell}
use Rattle.strc_emit_answers.proofs.orders_spell.Goals as goal

pub returns : goal.returns
returns c = orders_spell
