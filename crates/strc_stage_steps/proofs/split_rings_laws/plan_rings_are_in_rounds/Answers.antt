use Rattle.strc_stage_steps.proofs.PlanRuns.{plan_rings_are_in_rounds}
use Rattle.strc_stage_steps.proofs.split_rings_laws.plan_rings_are_in_rounds.Goals as goal

pub returns : goal.returns
returns c = plan_rings_are_in_rounds
