use Rattle.strc_emit_texts.proofs.Ends.{fault_row_holds}
use Rattle.strc_emit_texts.proofs.fault_row.Goals as goal

pub returns : goal.returns
returns c = fault_row_holds
