use Rattle.strc_live_runs.proofs.Served.{answer_law}
use Rattle.strc_live_runs.proofs.laws.live_runs_answer.Goals as goal

pub returns : goal.returns
returns c = answer_law c.live_plans_answer.ensures
