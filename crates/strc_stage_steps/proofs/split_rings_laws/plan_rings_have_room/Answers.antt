use Rattle.strc_stage_steps.proofs.PlanRuns.{plan_rings_have_room}
use Rattle.strc_stage_steps.proofs.split_rings_laws.plan_rings_have_room.Goals as goal

pub returns : goal.returns
returns c = plan_rings_have_room
