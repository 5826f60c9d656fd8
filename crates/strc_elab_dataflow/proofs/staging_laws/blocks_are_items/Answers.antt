use Rattle.strc_elab_dataflow.proofs.Fits.{blocks_are_items}
use Rattle.strc_elab_dataflow.proofs.staging_laws.blocks_are_items.Goals as goal

pub returns : goal.returns
returns g c = blocks_are_items
