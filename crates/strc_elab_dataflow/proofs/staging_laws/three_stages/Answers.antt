use Rattle.strc_elab_dataflow.proofs.Row.{three_stages_row}
use Rattle.strc_elab_dataflow.proofs.staging_laws.three_stages.Goals as goal

pub returns : goal.returns
returns c = three_stages_row
