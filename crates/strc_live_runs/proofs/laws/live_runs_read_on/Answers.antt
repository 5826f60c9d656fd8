use Rattle.strc_live_runs.proofs.Served.{read_on_law}
use Rattle.strc_live_runs.proofs.laws.live_runs_read_on.Goals as goal

pub returns : goal.returns
returns c = read_on_law
