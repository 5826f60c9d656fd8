use Rattle.strc_batch_laws.proofs.Done.{answer_law}
use Rattle.strc_batch_laws.proofs.batches_answer.Goals as goal

pub returns : goal.returns
returns g c = answer_law
