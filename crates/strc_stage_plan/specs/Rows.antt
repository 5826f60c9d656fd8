-- Worked rows: a graph of five nodes, of which three are a feedback loop, and one of five nodes
-- outside loops, of which three are one unit.
use Rattle.std.specs.Prelude.{◌≡◌, ℕ, ◌<◌, List, [], ◌∷◌, length, slice_index, Option, Some, None}
use Rattle.strc_elab_dataflow.specs.FusedUnits.{RoundUnit}
use Rattle.strc_elab_dataflow.specs.Pieces.{unit_of}
use Rattle.strc_elab_graph.specs.Graphs.{Graph}
use Rattle.strc_stage_plan.specs.Cuts.{IsBetweenUnits, IsCutOf}
use Rattle.strc_stage_plan.specs.Bounds.{group_starts, stage_bounds}

-- one node, then a loop of three, of which the joiner is node 1, and another node
abbrev pub loops : List (Option ℕ)
loops = None ∷ Some 1 ∷ Some 1 ∷ Some 1 ∷ None ∷ []

-- each fires in a unit of its own
abbrev pub order : List RoundUnit
order = unit_of 1 0 ∷ unit_of 2 1 ∷ unit_of 2 2 ∷ unit_of 2 3 ∷ unit_of 1 4 ∷ []

abbrev pub bound_in : List ℕ → (stage : ℕ) → ℕ
bound_in bounds stage = slice_index bounds stage

-- stages may begin at the loop and after it, and none begins within it
abbrev pub CutRoundALoop : Type 0
CutRoundALoop =
    (graph : Graph) → length graph.nodes ≡ 5 → graph.outer_loops ≡ loops
    → IsCutOf graph order (bound_in (0 ∷ 1 ∷ 4 ∷ 5 ∷ [])) 3
    × ((bound : (stage : ℕ) → ℕ) → (1 < bound 1) → (bound 1 < 4)
    → ¬ IsCutOf graph order bound 2)

-- there are three groups: two workers have one and two of them, and of nine only three have any
abbrev pub BoundsRoundALoop : Type 0
BoundsRoundALoop =
    (group_starts loops order ≡ 0 ∷ 1 ∷ 4 ∷ [])
    × (stage_bounds loops order 2 ≡ 0 ∷ 1 ∷ 5 ∷ [])
    × (stage_bounds loops order 3 ≡ 0 ∷ 1 ∷ 4 ∷ 5 ∷ [])
    × (stage_bounds loops order 9 ≡ 0 ∷ 1 ∷ 4 ∷ 5 ∷ [])

-- five nodes outside loops, of which nodes 0 to 2 are fused
abbrev pub no_loops : List (Option ℕ)
no_loops = None ∷ None ∷ None ∷ None ∷ None ∷ []

abbrev pub fused : List RoundUnit
fused = record { turns = 1; nodes = 0 ∷ 1 ∷ 1 ∷ 2 ∷ [] } ∷ unit_of 2 3 ∷ unit_of 1 4 ∷ []

-- they are one group, which no bound parts, however many workers there are
pub record BoundsRoundAUnit : Type 0 where
  pub starts : group_starts no_loops fused ≡ 0 ∷ 3 ∷ 4 ∷ []
  pub two : stage_bounds no_loops fused 2 ≡ 0 ∷ 3 ∷ 5 ∷ []
  pub nine : stage_bounds no_loops fused 9 ≡ 0 ∷ 3 ∷ 4 ∷ 5 ∷ []
  pub parted : ¬ IsBetweenUnits fused 2
