-- What fission is worth: what the laws on rounds before and after it ask for.
use Rattle.std.specs.Prelude.{◌≡◌, ◌⊎◌, ℕ, true, List, [], ◌∷◌, cond}
use Rattle.strc_elab_graph.specs.declared.graph.Fission.{Fission}
use Rattle.strc_elab_dataflow.specs.FusedUnits.{RoundUnit}
use Rattle.strc_elab_dataflow.specs.Pieces.{Piece, Piece.Plain, Piece.Whole, ArePieces, AreKept}
use Rattle.strc_elab_dataflow.specs.Pieces.{units_before, units_after}
use Rattle.strc_elab_dataflow.specs.Starting.{AreNumbered}
use Rattle.strc_fiss.specs.Numbers.{base, parts_after}
use Rattle.strc_fiss.specs.Units.{is_whole, split_units}

-- the parts of each node have numbers in a row
abbrev pub PartsAreNumbered : Type 0
PartsAreNumbered =
    (share : ℕ → Fission) (fired : ℕ → ℕ) → AreNumbered (parts_after share fired) (base share)

module _ (share : ℕ → Fission) where
  -- a unit as a piece of a round: all firings of a node that is split, or a plain unit
  abbrev pub piece_of : (turns : ℕ) → List ℕ → Piece
  piece_of turns [] = Plain (record { turns = turns; nodes = [] })
  piece_of turns (node ∷ []) = cond (is_whole share turns node) (Whole node)
      (Plain (record { turns = turns; nodes = node ∷ [] }))
  piece_of turns (first ∷ (second ∷ rest)) =
      Plain (record { turns = turns; nodes = first ∷ second ∷ rest })

  abbrev pub pieces_of : List RoundUnit → List Piece
  pieces_of [] = []
  pieces_of (unit ∷ rest) = piece_of unit.turns unit.nodes ∷ pieces_of rest

  -- nodes that are split have all their firings in units of their own
  abbrev pub IsOwn : (turns : ℕ) → List ℕ → Type 0
  IsOwn turns [] = Unit {0}
  IsOwn turns (node ∷ []) = is_whole share turns node ≡ true
      ⊎ AreKept (parts_after share (λ v. 0)) (node ∷ [])
  IsOwn turns (first ∷ (second ∷ rest)) =
      AreKept (parts_after share (λ v. 0)) (first ∷ second ∷ rest)

  abbrev pub AreOwn : List RoundUnit → Type 0
  AreOwn [] = Unit {0}
  AreOwn (unit ∷ rest) = IsOwn unit.turns unit.nodes × AreOwn rest

-- the units of a round are those of its pieces, before fission and after it
pub record UnitsArePieces : Type 0 where
  pub before : (share : ℕ → Fission) (fired : ℕ → ℕ) (units : List RoundUnit)
      → units_before (parts_after share fired) (pieces_of share units) ≡ units
  pub after : (share : ℕ → Fission) (fired : ℕ → ℕ) (units : List RoundUnit)
      → units_after (parts_after share fired) (pieces_of share units) ≡ split_units share units
  pub pieces : (share : ℕ → Fission) (fired : ℕ → ℕ) (units : List RoundUnit)
      → AreOwn share units → ArePieces (parts_after share fired) (pieces_of share units)
