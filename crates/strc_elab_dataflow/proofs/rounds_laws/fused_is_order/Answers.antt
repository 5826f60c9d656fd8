use Rattle.strc_elab_dataflow.proofs.Merging.{fused_is_order}
use Rattle.strc_elab_dataflow.proofs.rounds_laws.fused_is_order.Goals as goal

pub returns : goal.returns
returns g c =
    λ meaning graph input counts before first second after h m n repeats merges valid.
    fused_is_order before first second after h m n meaning graph input counts repeats merges valid
