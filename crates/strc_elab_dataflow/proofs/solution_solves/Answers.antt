use Rattle.strc_elab_dataflow.proofs.Solved.{stream_solves}
use Rattle.strc_elab_dataflow.proofs.solution_solves.Goals as goal

pub returns : goal.returns
returns g c meaning stream counts input keeps = stream_solves meaning counts input stream keeps
