use Rattle.strc_run.proofs.TextRuns.{plans_answer}
use Rattle.strc_run.proofs.laws.plans_answer_texts.Goals as goal

pub returns : goal.returns
returns c = plans_answer
