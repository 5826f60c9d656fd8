use Rattle.strc_live_runs.proofs.Starts.{fault_law}
use Rattle.strc_live_runs.proofs.laws.live_starts_fault.Goals as goal

pub returns : goal.returns
returns c = fault_law c.startup_faults_answer.ensures
