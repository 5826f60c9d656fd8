use Rattle.strc_elab_dataflow.proofs.Computed.{places_row}
use Rattle.strc_elab_dataflow.proofs.dealt_and_woven.Goals as goal

pub returns : goal.returns
returns c = places_row
