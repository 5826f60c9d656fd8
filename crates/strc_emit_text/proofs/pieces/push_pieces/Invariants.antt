use Rattle.std.proofs.Common.{◌≡◌, ◌++◌, drop}
use Rattle.strc_emit_text.specs.Texts.{pieces_text}
use Rattle.strc_emit_text.proofs.pieces.push_pieces.Given as goal

-- the text so far and that of the pieces left are the whole
abbrev pub invariant-loop-piece : goal.invariant-loop-piece
invariant-loop-piece l = l.text.items ++ pieces_text (drop l.piece-index l.pieces) ≡ l.fn.text.items
    ++ pieces_text l.pieces
