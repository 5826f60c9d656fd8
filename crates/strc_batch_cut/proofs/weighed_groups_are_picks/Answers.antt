use Rattle.strc_batch_cut.proofs.Weighed.{weighed_groups_are_picks}
use Rattle.strc_batch_cut.proofs.weighed_groups_are_picks.Goals as goal

pub returns : goal.returns
returns c = weighed_groups_are_picks
