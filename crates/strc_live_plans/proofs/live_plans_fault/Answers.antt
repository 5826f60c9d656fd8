use Rattle.strc_live_plans.proofs.Runs.{fault_law}
use Rattle.strc_live_plans.proofs.live_plans_fault.Goals as goal

pub returns : goal.returns
returns c = fault_law
