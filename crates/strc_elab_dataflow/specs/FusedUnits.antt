-- Fusion of a round's units, from left to right.
use Rattle.std.specs.Prelude.{◌≡◌, ℕ, ◌*◌, ◌<◌, ◌≤◌, ◌⊎◌, Bool, true, ℤ, List, [], ◌∷◌}
use Rattle.std.specs.Prelude.{◌++◌, length}
use Rattle.std.specs.Int.{IsGcd}
use Rattle.strc_elab_dataflow.specs.Node.{Meaning}
use Rattle.strc_elab_dataflow.specs.Flat.{Graph}
use Rattle.strc_elab_dataflow.specs.Order.{firing_count, IsOrder}
use Rattle.strc_elab_dataflow.specs.Rounds.{RepeatsRates, IsBalanced}
use Rattle.strc_elab_dataflow.specs.Fused.{repeated, GivesNothing}

-- A part of a round: a list of nodes, fired so many times.
pub record RoundUnit : Type 0 where
  pub turns : ℕ
  pub nodes : List ℕ

-- The firings of units.
abbrev pub firings_of : List RoundUnit → List ℕ
firings_of [] = []
firings_of (unit ∷ rest) = repeated unit.turns unit.nodes ++ firings_of rest

-- The nodes in units' lists.
abbrev pub nodes_of : List RoundUnit → List ℕ
nodes_of [] = []
nodes_of (unit ∷ rest) = unit.nodes ++ nodes_of rest

-- The unit that fires m turns of a unit and n of another, h times.
abbrev pub joined_unit : (h m n : ℕ) → RoundUnit → RoundUnit → RoundUnit
joined_unit h m n unit next = record {
  turns = h;
  nodes = repeated m unit.nodes ++ repeated n next.nodes;
}

module _ (free : ℕ → Bool) where
  -- Each node of a list may be fused.
  abbrev pub AreFree : List ℕ → Type 0
  AreFree [] = Unit {0}
  AreFree (node ∷ nodes) = (free node ≡ true) × AreFree nodes

  module _ (limit : ℕ) where
    -- Two neighbours become one of h turns: h is the greatest common divisor of their turns, their
    -- nodes may be fused, and the new list isn't too long.
    pub record Joins (unit next : RoundUnit) (h m n : ℕ) : Type 0 where
      pub divides : IsGcd unit.turns next.turns h
      pub first_turns : unit.turns ≡ h * m
      pub second_turns : next.turns ≡ h * n
      pub first_free : AreFree unit.nodes
      pub second_free : AreFree next.nodes
      pub short : length (repeated m unit.nodes ++ repeated n next.nodes) ≤ limit

    -- A unit and those after it, fused: where it joins the next, what they become goes on; else the
    -- next goes on.
    abbrev pub IsFused : RoundUnit → List RoundUnit → (fused : List RoundUnit) → Type 0
    IsFused unit [] fused = fused ≡ unit ∷ []
    IsFused unit (next ∷ rest) fused =
        ((h : ℕ) × (m : ℕ) × (n : ℕ) × Joins unit next h m n
        × IsFused (joined_unit h m n unit next) rest fused)
        ⊎ (((h m n : ℕ) → ¬ Joins unit next h m n)
        × ((later : List RoundUnit) × (fused ≡ unit ∷ later) × IsFused next rest later))

    abbrev pub AreFused : List RoundUnit → (fused : List RoundUnit) → Type 0
    AreFused [] fused = fused ≡ []
    AreFused (unit ∷ rest) fused = IsFused unit rest fused

module _ {Code State Cause Word : Type 0} (meaning : Meaning Code State Cause Word)
    (graph : Graph Code) (round : ℕ → ℕ) where
  -- All firings of each node of a unit are in this unit, and all firings of the nodes that give to
  -- them are in it or before it.
  pub record IsPlaced (unit : RoundUnit) (rest : List RoundUnit) : Type 0 where
    pub whole : (node : ℕ) → 0 < firing_count unit.nodes node
        → unit.turns * firing_count unit.nodes node ≡ round node
    pub not_later : (node : ℕ) → 0 < firing_count unit.nodes node
        → firing_count (nodes_of rest) node ≡ 0
    pub fed : (node port : ℕ) → 0 < firing_count unit.nodes node
        → port < meaning.ports (graph.code node)
        → GivesNothing (nodes_of rest) (graph.source node port).origin

  -- Each unit that may be fused is placed so.
  abbrev pub ArePlaced : (free : ℕ → Bool) → List RoundUnit → Type 0
  ArePlaced free [] = Unit {0}
  ArePlaced free (unit ∷ rest) =
      (AreFree free unit.nodes → IsPlaced unit rest) × ArePlaced free rest

-- Units of a round that are valid by counts: after fusion they are so still, and each node fires as
-- often.
abbrev pub FusedUnitsAreOrder : (Code State Cause Word : Type 0) → Type 0
FusedUnitsAreOrder Code State Cause Word =
    (meaning : Meaning Code State Cause Word) (graph : Graph Code) (input : List ℤ)
    (counts round : ℕ → ℕ) (free : ℕ → Bool) (limit : ℕ) (units fused : List RoundUnit)
    → RepeatsRates meaning graph counts
    → IsBalanced meaning graph counts round
    → ArePlaced meaning graph round free units
    → AreFused free limit units fused
    → IsOrder meaning graph input counts (firings_of units)
    → IsOrder meaning graph input counts (firings_of fused)
    × ((node : ℕ) → firing_count (firings_of fused) node ≡ firing_count (firings_of units) node)
