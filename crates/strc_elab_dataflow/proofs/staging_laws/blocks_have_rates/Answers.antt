use Rattle.strc_elab_dataflow.proofs.Fits.{blocks_have_rates}
use Rattle.strc_elab_dataflow.proofs.staging_laws.blocks_have_rates.Goals as goal

pub returns : goal.returns
returns g c = blocks_have_rates
