use Rattle.strc_emit_plans.proofs.Answers.{programs_answer}
use Rattle.strc_emit_plans.proofs.programs_answer.Goals as goal

pub returns : goal.returns
returns c = programs_answer
