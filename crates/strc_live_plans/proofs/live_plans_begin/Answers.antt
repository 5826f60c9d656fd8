use Rattle.strc_live_plans.proofs.Runs.{begin_law}
use Rattle.strc_live_plans.proofs.live_plans_begin.Goals as goal

pub returns : goal.returns
returns c = begin_law
