use Rattle.strc_batch_laws.proofs.Again.{resume_law}
use Rattle.strc_batch_laws.proofs.batches_resume.Goals as goal

pub returns : goal.returns
returns g c = resume_law
