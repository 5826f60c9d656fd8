use Rattle.strc_batch_laws.proofs.Fits.{fit_law}
use Rattle.strc_batch_laws.proofs.batches_fit.Goals as goal

pub returns : goal.returns
returns g c = fit_law
