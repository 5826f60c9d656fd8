use Rattle.strc_batch_cut.proofs.Plans.{weighed_bounds_are_a_cut}
use Rattle.strc_batch_cut.proofs.weighed_bounds_are_a_cut.Goals as goal

pub returns : goal.returns
returns c = weighed_bounds_are_a_cut
