use Rattle.strc_stage_plan.proofs.Refusals.{transformed_or_refused}
use Rattle.strc_stage_plan.proofs.split_laws.transformed_or_refused.Goals as goal

pub returns : goal.returns
returns c = transformed_or_refused
