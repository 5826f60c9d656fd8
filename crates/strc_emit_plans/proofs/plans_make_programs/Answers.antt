use Rattle.strc_emit_plans.proofs.Programs.{plans_make_programs}
use Rattle.strc_emit_plans.proofs.plans_make_programs.Goals as goal

pub returns : goal.returns
returns c = plans_make_programs
