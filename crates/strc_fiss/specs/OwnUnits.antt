-- Which firings of a round can be dealt to copies: those that one unit has alone.
use Rattle.std.specs.Prelude.{ℕ, Bool, false, cond, not, ◌&&◌, ◌||◌, nat_eq, List, [], ◌∷◌, length}
use Rattle.std.specs.Prelude.{filter, Option, slice_get}
use Rattle.std.specs.List.{list_any}
use Rattle.strc_elab_dataflow.specs.FusedUnits.{RoundUnit}
use Rattle.strc_balance.specs.Balance.{count_at}
use Rattle.strc_fuse.specs.Units.{is_outside}
use Rattle.strc_elab_graph.specs.Graphs.{Graph}
use Rattle.strc_elab_graph.specs.declared.graph.Fission.{Fission}
use Rattle.strc_fiss.specs.Numbers.{up_to}
use Rattle.strc_fiss.specs.Ways.{fission_of}

-- whether a unit names a node
abbrev pub names : (node : ℕ) → RoundUnit → Bool
names node unit = list_any (nat_eq node) unit.nodes

-- whether a list is of a node alone
abbrev pub is_alone : (node : ℕ) → List ℕ → Bool
is_alone node [] = false
is_alone node (other ∷ []) = nat_eq node other
is_alone node (first ∷ (second ∷ rest)) = false

-- whether units are one, which fires a node alone, so many times
abbrev pub are_own : (count node : ℕ) → List RoundUnit → Bool
are_own count node [] = false
are_own count node (unit ∷ []) = is_alone node unit.nodes && nat_eq unit.turns count
are_own count node (first ∷ (second ∷ rest)) = false

-- whether a node has so many firings in a unit of its own: this one alone names it
abbrev pub has_own_unit : List RoundUnit → (count node : ℕ) → Bool
has_own_unit units count node = are_own count node (filter (names node) units)

module _ (loops : List (Option ℕ)) (units : List RoundUnit) (counts : List ℕ) where
  -- Whether all firings of a node can be dealt: its own unit has them. A node of a feedback loop
  -- isn't split, whatever its units are, and it keeps its count.
  abbrev pub keeps_count : (node : ℕ) → Bool
  keeps_count node =
      not (is_outside (slice_get loops node)) || has_own_unit units (count_at counts node) node

  -- how many firings of a node are to be dealt, of those that it has in a round
  abbrev pub dealt_count : (node : ℕ) → ℕ
  dealt_count node = cond (keeps_count node) (count_at counts node) 0

  -- and of each node
  abbrev pub dealt_counts : List ℕ
  dealt_counts = up_to dealt_count (length loops)

-- how the firings of each node are dealt in a round of these units, where nodes fire so often
abbrev pub round_fission : Graph → List RoundUnit → (counts : List ℕ) → (ways node : ℕ) → Fission
round_fission graph units counts ways =
    fission_of graph (dealt_counts graph.outer_loops units counts) ways
