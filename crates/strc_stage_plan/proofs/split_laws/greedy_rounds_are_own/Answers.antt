use Rattle.strc_stage_plan.proofs.OwnUnits.{greedy_rounds_own}
use Rattle.strc_stage_plan.proofs.split_laws.greedy_rounds_are_own.Goals as goal

pub returns : goal.returns
returns c = greedy_rounds_own
