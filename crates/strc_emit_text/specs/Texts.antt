-- Texts that are put together.
use Rattle.std.specs.Prelude.{ℕ, zero, suc, List, [], ◌∷◌, ◌++◌, decimal}
use Rattle.std.specs.Fmt.{signed_decimal}
use Rattle.strc_emit_text.specs.declared.pieces.Piece.{Piece}
use Rattle.strc_emit_text.specs.declared.pieces.Piece.TheVariants as piece

-- a piece is bytes, or a number in decimal, with a `-` where it is negative
abbrev pub piece_text : Piece → List ℕ
piece_text (piece.Bytes bytes) = bytes.now
piece_text (piece.Number number) = decimal number
piece_text (piece.Integer number) = signed_decimal number

-- pieces one after another
abbrev pub pieces_text : List Piece → List ℕ
pieces_text [] = []
pieces_text (piece ∷ []) = piece_text piece
pieces_text (piece ∷ next ∷ pieces) = piece_text piece ++ pieces_text (next ∷ pieces)

-- the texts of the numbers below one, one after another
abbrev pub texts_below : (text : ℕ → List ℕ) → (count : ℕ) → List ℕ
texts_below text zero = []
texts_below text (suc count) = texts_below text count ++ text count
