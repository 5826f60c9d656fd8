use Rattle.strc_emit_texts.proofs.Orders.{unchanged_plans_keep_order}
use Rattle.strc_emit_texts.proofs.unchanged_plans_keep_order.Goals as goal

pub returns : goal.returns
returns c = unchanged_plans_keep_order
