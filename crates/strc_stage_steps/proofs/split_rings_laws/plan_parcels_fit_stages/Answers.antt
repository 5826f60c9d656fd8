use Rattle.strc_stage_steps.proofs.StagesFit.{plan_parcels_fit_stages}
use Rattle.strc_stage_steps.proofs.split_rings_laws.plan_parcels_fit_stages.Goals as goal

pub returns : goal.returns
returns c = plan_parcels_fit_stages
