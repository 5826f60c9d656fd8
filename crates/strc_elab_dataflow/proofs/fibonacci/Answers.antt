use Rattle.strc_elab_dataflow.proofs.Computed.{fibonacci_row}
use Rattle.strc_elab_dataflow.proofs.fibonacci.Goals as goal

pub returns : goal.returns
returns c = fibonacci_row
