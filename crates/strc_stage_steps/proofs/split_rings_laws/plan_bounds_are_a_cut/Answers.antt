use Rattle.strc_stage_steps.proofs.Plans.{plan_bounds_are_a_cut}
use Rattle.strc_stage_steps.proofs.split_rings_laws.plan_bounds_are_a_cut.Goals as goal

pub returns : goal.returns
returns c = plan_bounds_are_a_cut
