-- The text of pieces, one after another.
use Rattle.std.proofs.Common.{◌≡◌, sym, refl, List, [], ◌∷◌, ◌++◌, append-nil}
use Rattle.strc_emit_text.specs.declared.pieces.Piece.{Piece}
use Rattle.strc_emit_text.specs.Texts.{piece_text, pieces_text}

-- the first piece apart from those after it
pub first_apart : (piece : Piece) (rest : List Piece)
    → pieces_text (piece ∷ rest) ≡ piece_text piece ++ pieces_text rest
first_apart piece [] = sym (append-nil (piece_text piece))
first_apart piece (next ∷ rest) = refl
