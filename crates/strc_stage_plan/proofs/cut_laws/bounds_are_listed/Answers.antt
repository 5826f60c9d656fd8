use Rattle.strc_stage_plan.proofs.Shares.{bounds_are_listed}
use Rattle.strc_stage_plan.proofs.cut_laws.bounds_are_listed.Goals as goal

pub returns : goal.returns
returns c = bounds_are_listed
