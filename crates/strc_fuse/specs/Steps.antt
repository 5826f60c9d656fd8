-- How far the units of a round are fused: what the last unit becomes with the next one.
use Rattle.std.specs.Prelude.{◌≡◌, ℕ, ◌+◌, ◌*◌, ◌≤◌, ◌⊎◌, Bool, List, [], ◌∷◌, ◌++◌, length}
use Rattle.std.specs.Prelude.{MatchBool}
use Rattle.std.specs.Int.{IsGcd}
use Rattle.strc_elab_dataflow.specs.FusedUnits.{RoundUnit, AreFree, Joins, joined_unit}
use Rattle.strc_fuse.specs.declared.unit_join.Shares.{Shares}
use Rattle.strc_fuse.specs.declared.units.LastUnit.{LastUnit}

-- two units fire by turns so, in a list that isn't too long
pub record AreShares (limit : ℕ) (unit next : RoundUnit) (shares : Shares) : Type 0 where
  pub divides : IsGcd unit.turns next.turns shares.turns
  pub first_turns : unit.turns ≡ shares.turns * shares.first
  pub second_turns : next.turns ≡ shares.turns * shares.second
  pub short : shares.first * length unit.nodes + shares.second * length next.nodes ≤ limit

-- they don't join, though the nodes of both may be fused
abbrev pub AreTooLong : (limit : ℕ) → (unit next : RoundUnit) → Type 0
AreTooLong limit unit next = (free : ℕ → Bool) (h m n : ℕ) → ¬ Joins free limit unit next h m n

module _ (free : ℕ → Bool) where
  -- the mark of a unit tells whether its nodes may be fused
  abbrev pub IsMarked : LastUnit → Type 0
  IsMarked last = MatchBool last.is_free (AreFree free last.unit.nodes.items)
      (¬ AreFree free last.unit.nodes.items)

  -- of a last unit and the next one a new last unit was made: of both, where they join; else of the
  -- next one, and the old one is behind those before it
  abbrev pub GoesOn : (limit : ℕ) → (before : List RoundUnit) → (last next : RoundUnit)
      → (after : List RoundUnit) → (now : RoundUnit) → Type 0
  GoesOn limit before last next after now =
      ((h : ℕ) × (m : ℕ) × (n : ℕ) × Joins free limit last next h m n
      × (now ≡ joined_unit h m n last next) × (after ≡ before))
      ⊎ (((h m n : ℕ) → ¬ Joins free limit last next h m n)
      × (now ≡ next) × (after ≡ before ++ last ∷ []))
