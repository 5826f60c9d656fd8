use Rattle.strc_live_plans.proofs.Answers.{rounds_law}
use Rattle.strc_live_plans.proofs.live_rounds_answer.Goals as goal

pub returns : goal.returns
returns c = rounds_law
