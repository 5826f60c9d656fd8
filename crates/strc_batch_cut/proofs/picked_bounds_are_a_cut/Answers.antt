use Rattle.strc_batch_cut.proofs.Picks.{picked_bounds_are_a_cut}
use Rattle.strc_batch_cut.proofs.picked_bounds_are_a_cut.Goals as goal

pub returns : goal.returns
returns c = picked_bounds_are_a_cut
