use Rattle.strc_batch_plans.proofs.Rings.{batch_rings_end}
use Rattle.strc_batch_plans.proofs.batch_rings_end.Goals as goal

pub returns : goal.returns
returns c = batch_rings_end
