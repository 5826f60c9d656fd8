use Rattle.strc_batch_cut.proofs.Plans.{even_bounds_are_among}
use Rattle.strc_batch_cut.proofs.even_bounds_are_among.Goals as goal

pub returns : goal.returns
returns c = even_bounds_are_among
