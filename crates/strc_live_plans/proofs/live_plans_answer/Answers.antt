use Rattle.strc_live_plans.proofs.Runs.{answer_law}
use Rattle.strc_live_plans.proofs.live_plans_answer.Goals as goal

pub returns : goal.returns
returns c = answer_law
