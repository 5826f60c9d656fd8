use Rattle.strc_live_plans.proofs.NewReader.{reads_law}
use Rattle.strc_live_plans.proofs.plans_read_so.Goals as goal

pub returns : goal.returns
returns c = reads_law
