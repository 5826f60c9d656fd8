use Rattle.strc_stage_plan.proofs.Fused.{rounds_are_supplied}
use Rattle.strc_stage_plan.proofs.split_stages_laws.split_rounds_are_supplied.Goals as goal

pub returns : goal.returns
returns c = rounds_are_supplied
