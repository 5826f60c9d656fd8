use Rattle.strc_live_plans.proofs.Startups.{startup_faults_law}
use Rattle.strc_live_plans.proofs.startup_faults_answer.Goals as goal

pub returns : goal.returns
returns c = startup_faults_law
