use Rattle.strc_elab_dataflow.proofs.FissionRun.{fission_row}
use Rattle.strc_elab_dataflow.proofs.rounds_laws.fission_row.Goals as goal

pub returns : goal.returns
returns c = fission_row
