use Rattle.strc_emit_answers.proofs.Answers.{plans_answer}
use Rattle.strc_emit_answers.proofs.plans_answer.Goals as goal

pub returns : goal.returns
returns c = plans_answer
