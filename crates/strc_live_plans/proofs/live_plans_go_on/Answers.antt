use Rattle.strc_live_plans.proofs.Runs.{go_on_law}
use Rattle.strc_live_plans.proofs.live_plans_go_on.Goals as goal

pub returns : goal.returns
returns c = go_on_law
