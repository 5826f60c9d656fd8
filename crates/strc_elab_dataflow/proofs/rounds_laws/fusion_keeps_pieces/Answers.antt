use Rattle.strc_elab_dataflow.proofs.Pieces.{pieces_kept}
use Rattle.strc_elab_dataflow.proofs.rounds_laws.fusion_keeps_pieces.Goals as goal

pub returns : goal.returns
returns c = λ parts free new_free limit pieces fused same_free split_fixed parts_fixed are is.
    pieces_kept parts free new_free limit same_free split_fixed parts_fixed pieces fused are is
