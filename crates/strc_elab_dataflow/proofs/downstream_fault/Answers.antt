use Rattle.strc_elab_dataflow.proofs.Computed.{downstream_fault_row}
use Rattle.strc_elab_dataflow.proofs.downstream_fault.Goals as goal

pub returns : goal.returns
returns c = downstream_fault_row
