use Rattle.strc_stage_steps.proofs.PlanRuns.{plan_parcels_fit}
use Rattle.strc_stage_steps.proofs.split_rings_laws.plan_parcels_fit.Goals as goal

pub returns : goal.returns
returns c = plan_parcels_fit
