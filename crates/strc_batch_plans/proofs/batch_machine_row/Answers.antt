use Rattle.strc_batch_plans.proofs.Row.{batch_machine_row}
use Rattle.strc_batch_plans.proofs.batch_machine_row.Goals as goal

pub returns : goal.returns
returns c = batch_machine_row
