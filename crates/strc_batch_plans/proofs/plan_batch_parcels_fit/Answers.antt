use Rattle.strc_batch_plans.proofs.Plans.{plan_batch_parcels_fit}
use Rattle.strc_batch_plans.proofs.plan_batch_parcels_fit.Goals as goal

pub returns : goal.returns
returns c = plan_batch_parcels_fit
