use Rattle.strc_live_runs.proofs.Served.{serve_law}
use Rattle.strc_live_runs.proofs.laws.live_runs_serve.Goals as goal

pub returns : goal.returns
returns c = serve_law c.live_plans_serve.ensures
