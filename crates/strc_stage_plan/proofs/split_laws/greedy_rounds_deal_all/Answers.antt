use Rattle.strc_stage_plan.proofs.ProgramShares.{greedy_rounds_deal}
use Rattle.strc_stage_plan.proofs.split_laws.greedy_rounds_deal_all.Goals as goal

pub returns : goal.returns
returns c = greedy_rounds_deal
