use Rattle.strc_elab_dataflow.proofs.Merging.{fused_counts}
use Rattle.strc_elab_dataflow.proofs.rounds_laws.fused_counts.Goals as goal

pub returns : goal.returns
returns c = λ before first second after h m n node.
    fused_counts before first second after h m n node
