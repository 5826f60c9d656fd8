use Rattle.strc_elab_dataflow.proofs.Computed.{startup_fault_row}
use Rattle.strc_elab_dataflow.proofs.startup_fault.Goals as goal

pub returns : goal.returns
returns c = startup_fault_row
