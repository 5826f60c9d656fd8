-- The firings of units before and after fission are those of blocks.
use Rattle.std.specs.Prelude.{◌≡◌, ℕ, List, [], ◌∷◌}
use Rattle.strc_elab_dataflow.specs.Fused.{repeated}
use Rattle.strc_elab_dataflow.specs.FusedUnits.{firings_of}
use Rattle.strc_elab_dataflow.specs.Split.{Parts}
use Rattle.strc_elab_dataflow.specs.Blocks.{Block, Block.One, Block.All, AreBlocks, old_order}
use Rattle.strc_elab_dataflow.specs.Blocks.{new_order}
use Rattle.strc_elab_dataflow.specs.Pieces.{Piece, Piece.Plain, Piece.Whole, ArePieces}
use Rattle.strc_elab_dataflow.specs.Pieces.{units_before}
use Rattle.strc_elab_dataflow.specs.Pieces.{units_after}

-- A block for each firing of a list, and then other blocks.
abbrev pub one_each : List ℕ → (later : List Block) → List Block
one_each [] later = later
one_each (node ∷ nodes) later = One node ∷ one_each nodes later

-- The blocks of pieces.
abbrev pub blocks_of : List Piece → List Block
blocks_of [] = []
blocks_of (Plain unit ∷ rest) = one_each (repeated unit.turns unit.nodes) (blocks_of rest)
blocks_of (Whole v ∷ rest) = All v ∷ blocks_of rest

-- The units of pieces fire as their blocks do.
abbrev pub PiecesAreBlocks : Type 0
PiecesAreBlocks =
    (parts : Parts) (pieces : List Piece)
    → ArePieces parts pieces
    → AreBlocks parts (blocks_of pieces)
    × (firings_of (units_before parts pieces) ≡ old_order parts (blocks_of pieces))
    × (firings_of (units_after parts pieces) ≡ new_order parts (blocks_of pieces))
