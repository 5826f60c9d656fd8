use Rattle.strc_stage_plan.proofs.Repeats.{rounds_repeat}
use Rattle.strc_stage_plan.proofs.split_stages_laws.split_rounds_repeat.Goals as goal

pub returns : goal.returns
returns c = rounds_repeat
