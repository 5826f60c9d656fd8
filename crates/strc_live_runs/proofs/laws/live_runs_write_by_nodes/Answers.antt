use Rattle.strc_live_runs.proofs.Served.{nodes_law}
use Rattle.strc_live_runs.proofs.laws.live_runs_write_by_nodes.Goals as goal

pub returns : goal.returns
returns c = nodes_law
