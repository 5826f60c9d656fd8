use Rattle.strc_emit_plans.proofs.Firsts.{firsts_show}
use Rattle.strc_emit_plans.proofs.firsts_show.Goals as goal

pub returns : goal.returns
returns c = firsts_show
