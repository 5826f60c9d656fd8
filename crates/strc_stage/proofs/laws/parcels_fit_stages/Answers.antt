use Rattle.strc_stage.proofs.StagesFit.{parcels_fit_stages}
use Rattle.strc_stage.proofs.laws.parcels_fit_stages.Goals as goal

pub returns : goal.returns
returns c = parcels_fit_stages
