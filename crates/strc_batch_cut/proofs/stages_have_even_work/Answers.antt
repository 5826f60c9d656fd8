use Rattle.strc_batch_cut.proofs.Work.{stages_have_even_work}
use Rattle.strc_batch_cut.proofs.stages_have_even_work.Goals as goal

pub returns : goal.returns
returns c = stages_have_even_work
