use Rattle.strc_elab_dataflow.proofs.Computed.{division_fault_row}
use Rattle.strc_elab_dataflow.proofs.division_fault.Goals as goal

pub returns : goal.returns
returns c = division_fault_row
