use Rattle.strc_emit_plans.proofs.Calls.{call_row}
use Rattle.strc_emit_plans.proofs.call_row.Goals as goal

pub returns : goal.returns
returns c = call_row
