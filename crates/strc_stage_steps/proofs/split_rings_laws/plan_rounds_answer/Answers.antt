use Rattle.strc_stage_steps.proofs.PlanRuns.{plan_rounds_answer}
use Rattle.strc_stage_steps.proofs.split_rings_laws.plan_rounds_answer.Goals as goal

pub returns : goal.returns
returns c = plan_rounds_answer
