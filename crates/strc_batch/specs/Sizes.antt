-- How large a plan's buffers are for batches of rounds (Sermulins, Thies, Rabbah and Amarasinghe
-- 2005: execution scaling).
use Rattle.std.specs.Prelude.{◌≡◌, ℕ, ◌-◌, ◌<◌, ◌≤◌, ◌^◌, List, length, Some, slice_get}
use Rattle.std.specs.Prelude.{slice_index}
use Rattle.strc_elab_graph.specs.Graphs.{Channel}
use Rattle.strc_elab_dataflow.specs.Ranges.{stage_within}
use Rattle.strc_sched_orders.specs.Buffers.{size_limit}
use Rattle.strc_stage_plan.specs.Plans.{PlanParts, transformed_of}
use Rattle.strc_stage_cut.specs.Bounds.{bound_in, last_of}
use Rattle.strc_stage_cut.specs.Cuts.{IsCutAt}
use Rattle.strc_stage_cut.specs.Launches.{bounds_of}
use Rattle.strc_stage_cut.specs.Links.{items_between}
use Rattle.strc_batch_plans.specs.Plans.{size_across}
use Rattle.strc_batch.specs.declared.error.BatchError.{BatchError}
use Rattle.strc_batch.specs.declared.error.BatchError.TheVariants as refused

-- The finest groups: as many stages as there are groups, which 32 bits count.
abbrev pub group_bounds : PlanParts → List ℕ
group_bounds plan = bounds_of plan (2 ^ 32 - 1)

abbrev pub group_bound : PlanParts → (group : ℕ) → ℕ
group_bound plan = bound_in (group_bounds plan)

abbrev pub last_group : PlanParts → ℕ
last_group plan = last_of (group_bounds plan)

-- They are a cut.
abbrev pub IsGrouped : PlanParts → Type 0
IsGrouped plan = IsCutAt plan (group_bounds plan)

-- The group of each node, by the bounds of groups.
pub record AreGroupsOf (plan : PlanParts) (bounds groups : List ℕ) : Type 0 where
  pub nodes : length groups ≡ length (transformed_of plan).nodes
  pub each : (node : ℕ) → node < length (transformed_of plan).nodes
      → slice_index groups node ≡ stage_within (bound_in bounds) (last_of bounds) node

-- The size of a channel's buffer for a batch of so many rounds: within a group a round's; from a
-- group to another it has room for the items of all other rounds of the batch too.
abbrev pub size_for : PlanParts → (rounds number : ℕ) → Channel → ℕ
size_for plan rounds number channel =
    size_across rounds (slice_index plan.split.schedule.sizes number)
    (items_between plan (group_bounds plan) channel)

-- Each channel's buffer has just this size.
pub record AreSizesFor (plan : PlanParts) (rounds : ℕ) (sizes : List ℕ) : Type 0 where
  pub channels : length sizes ≡ length (transformed_of plan).channels
  pub each : (number : ℕ) (channel : Channel)
      → slice_get (transformed_of plan).channels number ≡ Some channel
      → slice_index sizes number ≡ size_for plan rounds number channel

-- The first of so many numbers that is past the limit of sizes.
pub record IsFirstPast (count : ℕ) (size : (number : ℕ) → ℕ) (first : ℕ) : Type 0 where
  pub there : first < count
  pub past : size_limit < size first
  pub lower : (number : ℕ) → number < first → size number ≤ size_limit

-- A refusal names it, or memory ran out.
abbrev pub IsPastOrMemory : (count : ℕ) → (size : (number : ℕ) → ℕ) → BatchError → Type 0
IsPastOrMemory count size (refused.BufferLimit channel) = IsFirstPast count size channel
IsPastOrMemory count size refused.NoMemory = Unit {0}
IsPastOrMemory count size refused.Long = ⊥

-- The lowest channel whose buffer would be past the limit.
pub record IsFirstTooLarge (plan : PlanParts) (rounds first : ℕ) : Type 0 where
  pub channel : Channel
  pub there : slice_get (transformed_of plan).channels first ≡ Some channel
  pub past : size_limit < size_for plan rounds first channel
  pub lower : (number : ℕ) (other : Channel) → number < first
      → slice_get (transformed_of plan).channels number ≡ Some other
      → size_for plan rounds number other ≤ size_limit

-- A plan has no buffers for batches of so many rounds where one would be too large, or memory ran
-- out.
abbrev pub HasNoSizes : PlanParts → (rounds : ℕ) → BatchError → Type 0
HasNoSizes plan rounds (refused.BufferLimit channel) = IsFirstTooLarge plan rounds channel
HasNoSizes plan rounds refused.NoMemory = Unit {0}
HasNoSizes plan rounds refused.Long = ⊥
