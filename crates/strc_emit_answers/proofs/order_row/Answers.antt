use Rattle.strc_emit_answers.proofs.Orders.{order_row}
use Rattle.strc_emit_answers.proofs.order_row.Goals as goal

pub returns : goal.returns
returns c = order_row
