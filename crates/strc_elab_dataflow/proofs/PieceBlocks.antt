-- The firings of units before and after fission are those of blocks.
use Rattle.std.proofs.Common.{◌≡◌, refl, sym, ap, ◌∙◌, ℕ, zero, suc, List, [], ◌∷◌, ◌++◌, map}
use Rattle.strc_elab_dataflow.specs.Fused.{repeated}
use Rattle.strc_elab_dataflow.specs.FusedUnits.{RoundUnit, firings_of}
use Rattle.strc_elab_dataflow.specs.Split.{Parts, all_firings}
use Rattle.strc_elab_dataflow.specs.Blocks.{Block, AreBlocks, old_order, new_order}
use Rattle.strc_elab_dataflow.specs.Blocks.{times, copies}
use Rattle.strc_elab_dataflow.specs.Pieces.{Piece, Piece.Plain, Piece.Whole, ArePieces}
use Rattle.strc_elab_dataflow.specs.Pieces.{units_before}
use Rattle.strc_elab_dataflow.specs.Pieces.{units_after, copy_units, unit_of, AreKept}
use Rattle.strc_elab_dataflow.specs.PieceBlocks.{one_each, blocks_of}
use Rattle.strc_elab_dataflow.proofs.Pieces.{map_repeated}

-- One node so many times.
times_repeated : (n v : ℕ) (later : List ℕ) → repeated n (v ∷ []) ++ later ≡ times n v later
times_repeated zero v later = refl
times_repeated (suc n) v later = ap (λ (l : List ℕ). v ∷ l) (times_repeated n v later)

module _ (parts : Parts) where
  kept_blocks : (nodes : List ℕ) (later : List Block) → AreKept parts nodes
      → AreBlocks parts later → AreBlocks parts (one_each nodes later)
  kept_blocks [] later kept are = are
  kept_blocks (node ∷ nodes) later kept are = (kept.0, kept_blocks nodes later kept.1 are)

  kept_append : (xs ys : List ℕ) → AreKept parts xs → AreKept parts ys → AreKept parts (xs ++ ys)
  kept_append [] ys x y = y
  kept_append (node ∷ xs) ys x y = (x.0, kept_append xs ys x.1 y)

  kept_repeated : (n : ℕ) (xs : List ℕ) → AreKept parts xs → AreKept parts (repeated n xs)
  kept_repeated zero xs kept = tt
  kept_repeated (suc n) xs kept =
      kept_append xs (repeated n xs) kept (kept_repeated n xs kept)

  old_each : (nodes : List ℕ) (later : List Block)
      → old_order parts (one_each nodes later) ≡ nodes ++ old_order parts later
  old_each [] later = refl
  old_each (node ∷ nodes) later = ap (λ (l : List ℕ). node ∷ l) (old_each nodes later)

  new_each : (nodes : List ℕ) (later : List Block)
      → new_order parts (one_each nodes later)
      ≡ map (λ (u : ℕ). parts.name u 0) nodes ++ new_order parts later
  new_each [] later = refl
  new_each (node ∷ nodes) later =
      ap (λ (l : List ℕ). parts.name node 0 ∷ l) (new_each nodes later)

  copies_same : (v left i : ℕ) (units : List RoundUnit) (later : List ℕ)
      → firings_of units ≡ later
      → firings_of (copy_units parts v i left units) ≡ copies parts v i left later
  copies_same v zero i units later e = e
  copies_same v (suc left) i units later e =
      times_repeated (parts.share v).firings (parts.name v (suc i))
      (firings_of (copy_units parts v (suc i) left units))
      ∙ ap (times (parts.share v).firings (parts.name v (suc i)))
      (copies_same v left (suc i) units later e)

  pub blocks_are : (pieces : List Piece) → ArePieces parts pieces
      → AreBlocks parts (blocks_of pieces)
  blocks_are [] are = tt
  blocks_are (Plain unit ∷ rest) are =
      kept_blocks (repeated unit.turns unit.nodes) (blocks_of rest)
      (kept_repeated unit.turns unit.nodes are.0) (blocks_are rest are.1)
  blocks_are (Whole v ∷ rest) are = (are.0, blocks_are rest are.1)

  pub before_same : (pieces : List Piece)
      → firings_of (units_before parts pieces) ≡ old_order parts (blocks_of pieces)
  before_same [] = refl
  before_same (Plain unit ∷ rest) =
      ap (λ (l : List ℕ). repeated unit.turns unit.nodes ++ l) (before_same rest)
      ∙ sym (old_each (repeated unit.turns unit.nodes) (blocks_of rest))
  before_same (Whole v ∷ rest) =
      times_repeated (all_firings (parts.share v)) v (firings_of (units_before parts rest))
      ∙ ap (times (all_firings (parts.share v)) v) (before_same rest)

  pub after_same : (pieces : List Piece)
      → firings_of (units_after parts pieces) ≡ new_order parts (blocks_of pieces)
  after_same [] = refl
  after_same (Plain unit ∷ rest) =
      ap (λ (l : List ℕ). l ++ firings_of (units_after parts rest))
      (sym (map_repeated (λ (u : ℕ). parts.name u 0) unit.turns unit.nodes))
      ∙ ap (λ (l : List ℕ). map (λ (u : ℕ). parts.name u 0) (repeated unit.turns unit.nodes) ++ l)
      (after_same rest)
      ∙ sym (new_each (repeated unit.turns unit.nodes) (blocks_of rest))
  after_same (Whole v ∷ rest) =
      ap (λ (l : List ℕ). parts.name v 0 ∷ l)
      (copies_same v (parts.share v).ways 0
      (unit_of 1 (parts.name v (suc (parts.share v).ways)) ∷ units_after parts rest)
      (parts.name v (suc (parts.share v).ways) ∷ new_order parts (blocks_of rest))
      (ap (λ (l : List ℕ). parts.name v (suc (parts.share v).ways) ∷ l) (after_same rest)))
