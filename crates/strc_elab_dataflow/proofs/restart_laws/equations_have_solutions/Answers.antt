use Rattle.strc_elab_dataflow.proofs.Solutions.{equations_have_solutions}
use Rattle.strc_elab_dataflow.proofs.restart_laws.equations_have_solutions.Goals as goal

pub returns : goal.returns
returns g c = equations_have_solutions
