-- Coarser cuts: stages of whole groups, where another cut has a stage for each group.
use Rattle.std.specs.Prelude.{◌≡◌, ℕ, suc, ◌<◌, ◌≤◌, List}
use Rattle.strc_elab_graph.specs.Graphs.{Graph}
use Rattle.strc_elab_dataflow.specs.FusedUnits.{RoundUnit}
use Rattle.strc_stage_plan.specs.Cuts.{IsCutOf}

-- Which group each stage begins with, and how many groups there are past the last stage: stages
-- have all groups, and each has some.
pub record IsPick (pick : (stage : ℕ) → ℕ) (stages groups : ℕ) : Type 0 where
  pub first : pick 0 ≡ 0
  pub all : pick stages ≡ groups
  pub rising : (stage : ℕ) → stage < stages → pick stage < pick (suc stage)

-- The bounds of the stages, by those of the groups.
abbrev pub picked : (bound : (group : ℕ) → ℕ) → (pick : (stage : ℕ) → ℕ) → (stage : ℕ) → ℕ
picked bound pick stage = bound (pick stage)

-- Each bound of a stage is one of a group.
abbrev pub AreAmong : (wide : (stage : ℕ) → ℕ) → (stages : ℕ) → (bound : (group : ℕ) → ℕ)
    → (groups : ℕ) → Type 0
AreAmong wide stages bound groups =
    (stage : ℕ) → stage ≤ stages → (group : ℕ) × (group ≤ groups) × (wide stage ≡ bound group)

-- Where bounds are a cut, those that stages take of them are one too.
abbrev pub PickedBoundsAreACut : Type 0
PickedBoundsAreACut =
    (graph : Graph) (round : List RoundUnit) (bound : (group : ℕ) → ℕ) (groups : ℕ)
    (pick : (stage : ℕ) → ℕ) (stages : ℕ)
    → IsCutOf graph round bound groups → IsPick pick stages groups
    → IsCutOf graph round (picked bound pick) stages
    × AreAmong (picked bound pick) stages bound groups
