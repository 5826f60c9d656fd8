use Rattle.strc_elab_dataflow.proofs.Computed.{balance_row}
use Rattle.strc_elab_dataflow.proofs.balanced_loop.Goals as goal

pub returns : goal.returns
returns c = balance_row
