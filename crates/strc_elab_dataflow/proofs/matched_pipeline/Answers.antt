use Rattle.strc_elab_dataflow.proofs.Computed.{matched_row}
use Rattle.strc_elab_dataflow.proofs.matched_pipeline.Goals as goal

pub returns : goal.returns
returns c = matched_row
