use Rattle.strc_emit_plans.proofs.Rounds.{plans_make_rounds}
use Rattle.strc_emit_plans.proofs.plans_make_rounds.Goals as goal

pub returns : goal.returns
returns c = plans_make_rounds
