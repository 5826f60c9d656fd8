use Rattle.strc_sched_laws.proofs.Nodes.{nodes_push_rates}
use Rattle.strc_sched_laws.proofs.parts_laws.nodes_push_rates.Goals as goal

pub returns : goal.returns
returns c = nodes_push_rates
