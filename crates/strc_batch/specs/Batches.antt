-- A batch of rounds of a plan, between its finest groups (Sermulins, Thies, Rabbah and Amarasinghe
-- 2005: execution scaling).
use Rattle.std.specs.Prelude.{◌≡◌, ℕ, suc, ◌*◌, ◌<◌, ◌≤◌, ◌^◌, ◌⊎◌, List, [], ◌∷◌, map, Contains}
use Rattle.std.specs.Prelude.{All}
use Rattle.std.specs.List.{range_with_len}
use Rattle.strc_elab_dataflow.specs.FusedUnits.{RoundUnit}
use Rattle.strc_sched_orders.specs.Buffers.{size_limit}
use Rattle.strc_sched_orders.specs.Greedy as order
use Rattle.strc_sched_orders.specs.declared.unit as units
use Rattle.strc_fuse.specs.Units.{round_units}
use Rattle.strc_stage_plan.specs.Plans.{PlanParts}
use Rattle.strc_batch_laws.specs.Units.{batch_units_of}
use Rattle.strc_batch_plans.specs.Batched.{Batching, order_of}
use Rattle.strc_batch_plans.specs.Plans.{batching_of, group_units}
use Rattle.strc_batch.specs.Listed.{IsShort, listed_in}
use Rattle.strc_batch.specs.Sizes.{AreSizesFor, HasNoSizes, group_bound, last_group}
use Rattle.strc_batch.specs.declared.error.BatchError.{BatchError}
use Rattle.strc_batch.specs.declared.error.BatchError.TheVariants as refused

pub record BatchParts : Type 0 where
  pub units : List units.Unit.Unit
  pub sizes : List ℕ
  pub rounds : ℕ

-- The units of a plan's finest groups.
abbrev pub plan_units : PlanParts → List (List RoundUnit)
plan_units plan =
    map (group_units plan (group_bound plan)) (range_with_len 0 (suc (last_group plan)))

-- How many firings of a round the lists of a plan's batches have.
abbrev pub plan_listed : PlanParts → ℕ
plan_listed plan = listed_in (plan_units plan)

-- The batches of a plan between its finest groups, as the laws see them.
abbrev pub batching : PlanParts → (rounds : ℕ) → Batching
batching plan rounds = batching_of plan (group_bound plan) (last_group plan) rounds

-- A batch of a plan: each group's units so many times over, as one unit a group, and buffers that
-- are as large as these need, within the limit of sizes.
pub record IsBatchOf (plan : PlanParts) (batch : BatchParts) : Type 0 where
  pub some : 0 < batch.rounds
  pub short : IsShort (plan_listed plan) batch.rounds
  pub units_are : round_units batch.units ≡ batch_units_of batch.rounds
      (group_units plan (group_bound plan)) (suc (last_group plan))
  pub sizes_are : AreSizesFor plan batch.rounds batch.sizes
  pub within : All (λ size. size ≤ size_limit) batch.sizes
  pub firings_are : order.firings_of batch.units ≡ order_of (batching plan batch.rounds)

-- A group is one unit whose turns 32 bits would not count so many times over.
pub record HasManyTurns (group : List RoundUnit) (rounds : ℕ) : Type 0 where
  pub unit : RoundUnit
  pub only : group ≡ unit ∷ []
  pub many : 2 ^ 32 ≤ rounds * unit.turns

-- One of the groups is such a unit.
pub record HaveManyTurns (groups : List (List RoundUnit)) (rounds : ℕ) : Type 0 where
  pub group : List RoundUnit
  pub there : Contains groups group
  pub many : HasManyTurns group rounds

-- An error is out of memory, or that.
abbrev pub IsManyTurns : (many : Type 0) → BatchError → Type 0
IsManyTurns many refused.Long = many
IsManyTurns many refused.NoMemory = Unit {0}
IsManyTurns many (refused.BufferLimit channel) = ⊥

-- A plan has no batch of so many rounds: it would be too long, or a buffer too large; or memory ran
-- out.
abbrev pub HasNoBatch : PlanParts → (rounds : ℕ) → BatchError → Type 0
HasNoBatch plan rounds refused.Long =
    (IsShort (plan_listed plan) rounds → ⊥) ⊎ HaveManyTurns (plan_units plan) rounds
HasNoBatch plan rounds error = HasNoSizes plan rounds error
