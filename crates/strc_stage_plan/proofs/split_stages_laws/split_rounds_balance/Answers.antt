use Rattle.strc_stage_plan.proofs.Fused.{rounds_balance}
use Rattle.strc_stage_plan.proofs.split_stages_laws.split_rounds_balance.Goals as goal

pub returns : goal.returns
returns c = rounds_balance
