use Rattle.strc_elab_dataflow.proofs.Solutions.{rounds_have_solutions}
use Rattle.strc_elab_dataflow.proofs.restart_laws.rounds_have_solutions.Goals as goal

pub returns : goal.returns
returns g c = rounds_have_solutions
