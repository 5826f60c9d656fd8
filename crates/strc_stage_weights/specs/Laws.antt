-- Stages of whole groups.
use Rattle.std.specs.Prelude.{◌≡◌, ℕ, ◌<◌, ◌≤◌, length}
use Rattle.strc_batch_cut.specs.Picks.{AreAmong, IsPick}
use Rattle.strc_batch_cut.specs.Plans.{group_bound, plan_groups}
use Rattle.strc_stage_plan.specs.Plans.{PlanParts, IsPlan, graph_of}
use Rattle.strc_stage_steps.specs.Plans.{IsCut, plan_stages}
use Rattle.strc_stage_weights.specs.StageBounds.{AreStageBounds, weighed_bounds}

-- Whatever groups of a plan stages begin with, from group 0 on and rising: where their bounds are
-- where these groups begin, and the last one's end is that of the nodes, they are a cut.
abbrev pub PickedGroupsAreACut : Type 0
PickedGroupsAreACut =
    (plan : PlanParts) (pick bound : (stage : ℕ) → ℕ) (stages : ℕ) → IsPlan plan
    → 0 < length (graph_of plan).nodes
    → IsPick pick stages (plan_groups plan)
    → ((stage : ℕ) → stage ≤ stages → bound stage ≡ group_bound plan (pick stage))
    → IsCut plan bound stages
    × AreAmong bound stages (group_bound plan) (plan_groups plan)

-- The bounds by the work of nodes are those of as many stages as the even ones.
abbrev pub WeighedBoundsAreOfStages : Type 0
WeighedBoundsAreOfStages =
    (plan : PlanParts) (workers : ℕ) → IsPlan plan → 0 < workers
    → 0 < length (graph_of plan).nodes
    → AreStageBounds plan (plan_stages plan workers) (weighed_bounds plan workers)
