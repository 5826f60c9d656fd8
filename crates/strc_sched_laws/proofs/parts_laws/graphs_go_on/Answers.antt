use Rattle.strc_sched_laws.proofs.GoingOn.{graphs_go_on}
use Rattle.strc_sched_laws.proofs.parts_laws.graphs_go_on.Goals as goal

pub returns : goal.returns
returns c = graphs_go_on
