use Rattle.strc_batch_laws.proofs.Schedule.{schedule_law}
use Rattle.strc_batch_laws.proofs.batches_are_schedule.Goals as goal

pub returns : goal.returns
returns g c = schedule_law
