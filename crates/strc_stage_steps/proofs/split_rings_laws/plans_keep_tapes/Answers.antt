use Rattle.strc_stage_steps.proofs.PlanRuns.{plans_keep_tapes}
use Rattle.strc_stage_steps.proofs.split_rings_laws.plans_keep_tapes.Goals as goal

pub returns : goal.returns
returns c = plans_keep_tapes
