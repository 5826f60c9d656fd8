use Rattle.strc_elab_dataflow.proofs.Computed.{fault_in_loop_row}
use Rattle.strc_elab_dataflow.proofs.fault_in_loop.Goals as goal

pub returns : goal.returns
returns c = fault_in_loop_row
