use Rattle.strc_live_plans.proofs.Runs.{serve_law}
use Rattle.strc_live_plans.proofs.live_plans_serve.Goals as goal

pub returns : goal.returns
returns c = serve_law
