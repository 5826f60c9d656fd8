use Rattle.strc_emit_plans.proofs.Answers.{programs_mean}
use Rattle.strc_emit_plans.proofs.programs_mean.Goals as goal

pub returns : goal.returns
returns c = programs_mean
