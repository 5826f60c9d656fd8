use Rattle.strc_batch_cut.proofs.Even.{weighed_stages_are_even}
use Rattle.strc_batch_cut.proofs.weighed_stages_are_even.Goals as goal

pub returns : goal.returns
returns c = weighed_stages_are_even
