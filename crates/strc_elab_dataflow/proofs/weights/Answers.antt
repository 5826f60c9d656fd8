use Rattle.strc_elab_dataflow.proofs.Computed.{weights_row}
use Rattle.strc_elab_dataflow.proofs.weights.Goals as goal

pub returns : goal.returns
returns c = weights_row
