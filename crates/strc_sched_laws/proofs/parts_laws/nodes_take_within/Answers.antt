use Rattle.strc_sched_laws.proofs.Repeats.{nodes_take_within}
use Rattle.strc_sched_laws.proofs.parts_laws.nodes_take_within.Goals as goal

pub returns : goal.returns
returns c = nodes_take_within
