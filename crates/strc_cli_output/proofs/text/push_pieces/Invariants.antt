use Rattle.std.proofs.Common.{◌≡◌, ◌++◌, drop}
use Rattle.strc_cli_output.specs.Pieces.{pieces_text}
use Rattle.strc_cli_output.proofs.text.push_pieces.Given as goal

-- the text so far and that of the pieces left are the whole
abbrev pub invariant-loop-piece : goal.invariant-loop-piece
invariant-loop-piece l = l.text.items ++ pieces_text (drop l.piece-index l.pieces) ≡ l.fn.text.items
    ++ pieces_text l.pieces
