use Rattle.strc_elab_dataflow.proofs.FusionRow.{fusion_row}
use Rattle.strc_elab_dataflow.proofs.rounds_laws.fusion_row.Goals as goal

pub returns : goal.returns
returns c = fusion_row
