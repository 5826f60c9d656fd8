use Rattle.strc_emit_resolved.proofs.Programs.{resolved_plans_answer}
use Rattle.strc_emit_resolved.proofs.resolved_plans_answer.Goals as goal

pub returns : goal.returns
returns c = resolved_plans_answer
