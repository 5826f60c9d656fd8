use Rattle.strc_emit_plans.proofs.Rounds.{plans_make_startups}
use Rattle.strc_emit_plans.proofs.plans_make_startups.Goals as goal

pub returns : goal.returns
returns c = plans_make_startups
