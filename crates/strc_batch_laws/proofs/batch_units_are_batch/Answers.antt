use Rattle.strc_batch_laws.proofs.Units.{units_law}
use Rattle.strc_batch_laws.proofs.batch_units_are_batch.Goals as goal

pub returns : goal.returns
returns c = units_law
