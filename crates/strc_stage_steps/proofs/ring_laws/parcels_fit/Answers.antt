use Rattle.strc_stage_steps.proofs.ParcelsFit.{parcels_fit}
use Rattle.strc_stage_steps.proofs.ring_laws.parcels_fit.Goals as goal

pub returns : goal.returns
returns c = parcels_fit
