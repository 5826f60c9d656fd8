use Rattle.strc_elab_dataflow.proofs.Fits.{step_fits}
use Rattle.strc_elab_dataflow.proofs.staging_laws.step_fits.Goals as goal

pub returns : goal.returns
returns g c = step_fits
