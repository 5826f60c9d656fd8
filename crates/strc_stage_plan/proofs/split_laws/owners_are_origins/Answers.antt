use Rattle.strc_stage_plan.proofs.Owners.{owners_have_origins}
use Rattle.strc_stage_plan.proofs.split_laws.owners_are_origins.Goals as goal

pub returns : goal.returns
returns c = owners_have_origins
