use Rattle.strc_live_plans.proofs.Startups.{startups_law}
use Rattle.strc_live_plans.proofs.startups_go_alike.Goals as goal

pub returns : goal.returns
returns c = startups_law
