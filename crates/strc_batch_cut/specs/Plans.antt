-- Cuts of a plan's round by its groups' weights.
use Rattle.std.specs.Prelude.{ℕ, ◌<◌, List, length}
use Rattle.strc_fuse.specs.Units.{round_units}
use Rattle.strc_stage_plan.specs.Bounds.{group_starts}
use Rattle.strc_stage_plan.specs.Plans.{PlanParts, IsPlan, graph_of, transformed_of}
use Rattle.strc_stage_steps.specs.Plans.{IsCut, plan_bound, plan_stages}
use Rattle.strc_batch_cut.specs.Picks.{picked, AreAmong}
use Rattle.strc_batch_cut.specs.Weighed.{weighed_group}

-- How many groups a plan's round has, and where they begin: a stage for each.
abbrev pub plan_groups : PlanParts → ℕ
plan_groups plan = length (group_starts (transformed_of plan).outer_loops
    (round_units plan.split.schedule.round))

abbrev pub group_bound : PlanParts → (group : ℕ) → ℕ
group_bound plan = plan_bound plan (plan_groups plan)

-- The bounds of so many workers' stages by the weights of the groups.
abbrev pub weighed_bound : PlanParts → (weights : List ℕ) → (workers stage : ℕ) → ℕ
weighed_bound plan weights workers =
    picked (group_bound plan)
    (weighed_group weights (plan_groups plan) (plan_stages plan workers))

-- The groups are a cut, and weighed bounds are one of whole groups.
abbrev pub WeighedBoundsAreACut : Type 0
WeighedBoundsAreACut =
    (plan : PlanParts) (weights : List ℕ) (workers : ℕ) → IsPlan plan → 0 < workers
    → 0 < length (graph_of plan).nodes
    → IsCut plan (group_bound plan) (plan_groups plan)
    × IsCut plan (weighed_bound plan weights workers) (plan_stages plan workers)
    × AreAmong (weighed_bound plan weights workers) (plan_stages plan workers) (group_bound plan)
    (plan_groups plan)

-- Bounds that workers share evenly, without weights, are of whole groups too.
abbrev pub EvenBoundsAreAmong : Type 0
EvenBoundsAreAmong =
    (plan : PlanParts) (workers : ℕ) → IsPlan plan → 0 < workers
    → 0 < length (graph_of plan).nodes
    → AreAmong (plan_bound plan workers) (plan_stages plan workers) (group_bound plan)
    (plan_groups plan)
