-- Fission and then fusion: the units that come out are the fission of units that fusion makes of
-- the old ones.
use Rattle.std.specs.Prelude.{◌≡◌, ℕ, zero, suc, ◌≤◌, Bool, true, false, List, [], ◌∷◌, map}
use Rattle.strc_elab_dataflow.specs.FusedUnits.{RoundUnit, AreFused}
use Rattle.strc_elab_dataflow.specs.Split.{Parts, all_firings, outlet}

-- A unit of nodes that aren't split, or all firings of one that is.
pub data Piece : Type 0 where
  Plain : RoundUnit → Piece
  Whole : ℕ → Piece

-- One node, so many times.
abbrev pub unit_of : (turns node : ℕ) → RoundUnit
unit_of turns node = record { turns = turns; nodes = node ∷ [] }

module _ (parts : Parts) where
  -- The units before fission.
  abbrev pub units_before : List Piece → List RoundUnit
  units_before [] = []
  units_before (Plain unit ∷ rest) = unit ∷ units_before rest
  units_before (Whole v ∷ rest) = unit_of (all_firings (parts.share v)) v ∷ units_before rest

  -- A unit with the nodes' new numbers.
  abbrev pub renamed_unit : RoundUnit → RoundUnit
  renamed_unit unit = record {
    turns = unit.turns;
    nodes = map (λ (u : ℕ). parts.name u 0) unit.nodes;
  }

  -- A unit for each of so many copies, from copy i on, and then other units.
  abbrev pub copy_units : (v i left : ℕ) → (later : List RoundUnit) → List RoundUnit
  copy_units v i zero later = later
  copy_units v i (suc left) later = unit_of (parts.share v).firings (parts.name v (suc i))
      ∷ copy_units v (suc i) left later

  -- The units after fission: a scatter, each copy and a gather are units by themselves.
  abbrev pub units_after : List Piece → List RoundUnit
  units_after [] = []
  units_after (Plain unit ∷ rest) = renamed_unit unit ∷ units_after rest
  units_after (Whole v ∷ rest) = unit_of 1 (parts.name v 0)
      ∷ copy_units v 0 (parts.share v).ways
      (unit_of 1 (parts.name v (suc (parts.share v).ways)) ∷ units_after rest)

  -- No node of a list is split.
  abbrev pub AreKept : List ℕ → Type 0
  AreKept [] = Unit {0}
  AreKept (node ∷ nodes) = (parts.is_split node ≡ false) × AreKept nodes

  abbrev pub ArePieces : List Piece → Type 0
  ArePieces [] = Unit {0}
  ArePieces (Plain unit ∷ rest) = AreKept unit.nodes × ArePieces rest
  ArePieces (Whole v ∷ rest) = (parts.is_split v ≡ true) × ArePieces rest

  -- What fusion of the units after fission comes to: the fission of pieces whose units before it
  -- are the old ones fused.
  pub record IsFissionOfFused (free : ℕ → Bool) (limit : ℕ) (old fused : List RoundUnit)
      : Type 0 where
    pub pieces : List Piece
    pub are : ArePieces pieces
    pub after : fused ≡ units_after pieces
    pub before : AreFused free limit old (units_before pieces)

-- Nodes that are split may not be fused, nor their parts; then fusion after fission is fission
-- after fusion.
abbrev pub FusionKeepsPieces : Type 0
FusionKeepsPieces =
    (parts : Parts) (free new_free : ℕ → Bool) (limit : ℕ) (pieces : List Piece)
    (fused : List RoundUnit)
    → ((w : ℕ) → parts.is_split w ≡ false → new_free (parts.name w 0) ≡ free w)
    → ((v : ℕ) → parts.is_split v ≡ true → free v ≡ false)
    → ((v k : ℕ) → parts.is_split v ≡ true → k ≤ outlet parts v
    → new_free (parts.name v k) ≡ false)
    → ArePieces parts pieces
    → AreFused new_free limit (units_after parts pieces) fused
    → IsFissionOfFused parts free limit (units_before parts pieces) fused
