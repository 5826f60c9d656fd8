use Rattle.strc_elab_dataflow.proofs.PieceBlocks.{blocks_are, before_same, after_same}
use Rattle.strc_elab_dataflow.proofs.rounds_laws.pieces_are_blocks.Goals as goal

pub returns : goal.returns
returns c = λ parts pieces are.
    (blocks_are parts pieces are, before_same parts pieces, after_same parts pieces)
