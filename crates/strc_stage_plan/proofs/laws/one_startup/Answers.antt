use Rattle.strc_stage_plan.proofs.Exclusion.{one_startup}
use Rattle.strc_stage_plan.proofs.laws.one_startup.Goals as goal

pub returns : goal.returns
returns c = one_startup
