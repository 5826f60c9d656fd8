-- Nodes with two ports, whose items go straight between three rings.
use Rattle.std.specs.Prelude.{◌≡◌, ◌≢◌, ℕ, List, [], ◌∷◌, Option, Some}
use Rattle.strc_sched_laws.specs.Rings.{Ring, at_port, moved}
use Rattle.strc_sched_rings.specs.declared.pair.Pair.{Pair}

-- the rings at the two ports of a node with these weights, and the one on its other side
pub record IsPair (weights : List ℕ) (ports : List (Option ℕ)) (other : Option ℕ) (pair : Pair)
    : Type 0 where
  pub weights_are : weights ≡ pair.first_weight ∷ pair.second_weight ∷ []
  pub first : at_port ports 0 ≡ Some pair.first
  pub second : at_port ports 1 ≡ Some pair.second
  pub other_is : other ≡ Some pair.other
  pub first_apart : pair.first ≢ pair.other
  pub second_apart : pair.second ≢ pair.other

-- one turn of a splitter, and of a joiner
abbrev pub dealt_to : Pair → List Ring → List Ring
dealt_to pair rings =
    moved (Some pair.other) (Some pair.second) pair.second_weight
    (moved (Some pair.other) (Some pair.first) pair.first_weight rings)

abbrev pub gathered_from : Pair → List Ring → List Ring
gathered_from pair rings =
    moved (Some pair.second) (Some pair.other) pair.second_weight
    (moved (Some pair.first) (Some pair.other) pair.first_weight rings)
