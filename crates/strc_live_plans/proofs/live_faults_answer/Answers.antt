use Rattle.strc_live_plans.proofs.Answers.{faults_answer_law}
use Rattle.strc_live_plans.proofs.live_faults_answer.Goals as goal

pub returns : goal.returns
returns c = faults_answer_law
