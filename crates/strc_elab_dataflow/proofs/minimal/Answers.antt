use Rattle.strc_elab_dataflow.proofs.Computed.{minimal_row}
use Rattle.strc_elab_dataflow.proofs.minimal.Goals as goal

pub returns : goal.returns
returns c = minimal_row
