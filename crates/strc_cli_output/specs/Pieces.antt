-- The text of a line that is put together of pieces.
use Rattle.std.specs.Prelude.{ℕ, List, [], ◌∷◌, ◌++◌, decimal}
use Rattle.strc_cli_output.specs.declared.text.Piece.{Piece}
use Rattle.strc_cli_output.specs.declared.text.Piece.TheVariants as piece

-- a piece is bytes, or a number in decimal
abbrev pub piece_text : Piece → List ℕ
piece_text (piece.Bytes bytes) = bytes.now
piece_text (piece.Number number) = decimal number

-- pieces one after another
abbrev pub pieces_text : List Piece → List ℕ
pieces_text [] = []
pieces_text (piece ∷ []) = piece_text piece
pieces_text (piece ∷ next ∷ pieces) = piece_text piece ++ pieces_text (next ∷ pieces)
