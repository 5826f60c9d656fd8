use Rattle.strc_elab_dataflow.proofs.Computed.{two_faults_row}
use Rattle.strc_elab_dataflow.proofs.two_faults.Goals as goal

pub returns : goal.returns
returns c = two_faults_row
