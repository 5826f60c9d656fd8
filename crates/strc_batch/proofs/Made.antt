-- A plan's batch, of its units and its sizes.
use Rattle.std.proofs.Common.{◌≡◌, ◌⊎◌, ap, ◌∙◌, ℕ, suc, ◌-◌, ◌<◌, ◌≤◌, ◌^◌, List, length, arith}
use Rattle.std.specs.Prelude.{All}
use Rattle.std.specs.List.{flat_map}
use Rattle.strc_elab_dataflow.specs.FusedUnits.{firings_of}
use Rattle.strc_sched_orders.specs.Buffers.{size_limit}
use Rattle.strc_sched_orders.specs.declared.unit as unit_type
use Rattle.strc_fuse.specs.Units.{round_units}
use Rattle.strc_fuse.proofs.Counting.{firings_same}
use Rattle.strc_stage_plan.specs.Plans.{IsPlan, PlanParts, graph_of}
use Rattle.strc_stage_cut.proofs.Cuts.{bounds_cut}
use Rattle.strc_batch_laws.specs.Units.{batch_units, batch_units_of}
use Rattle.strc_batch_plans.specs.Plans.{group_units}
use Rattle.strc_batch_plans.proofs.Plans.{plan_units_are_batch}
use Rattle.strc_batch.specs.Batches.{HasNoBatch, HaveManyTurns, IsBatchOf, IsManyTurns}
use Rattle.strc_batch.specs.Batches.{plan_listed, plan_units}
use Rattle.strc_batch.specs.Listed.{IsShort}
use Rattle.strc_batch.specs.Sizes.{AreSizesFor, HasNoSizes, group_bound, last_group}
use Rattle.strc_batch.specs.declared.error.BatchError.{BatchError}
use Rattle.strc_batch.specs.declared.error.BatchError.TheVariants as refused
use Rattle.strc_batch.proofs.Joined.{joined_so}

module _ (plan : PlanParts) (rounds : ℕ) where
  pub batch_made : (units : List unit_type.Unit.Unit) (sizes : List ℕ) → IsPlan plan → 0 < rounds
      → 0 < length (graph_of plan).nodes
      → round_units units ≡ flat_map (batch_units rounds) (plan_units plan)
      → IsShort (plan_listed plan) rounds → AreSizesFor plan rounds sizes
      → All (λ size. size ≤ size_limit) sizes
      → IsBatchOf plan (record { units = units; sizes = sizes; rounds = rounds })
  batch_made units sizes is some nodes made short sized within =
      let units_are : round_units units ≡ batch_units_of rounds
      (group_units plan (group_bound plan)) (suc (last_group plan)) =
      made ∙ joined_so (batch_units rounds) (group_units plan (group_bound plan))
      (suc (last_group plan)) in
      record {
        some = some;
        short = short;
        units_are = units_are;
        sizes_are = sized;
        within = within;
        firings_are = firings_same units ∙ ap firings_of units_are
            ∙ plan_units_are_batch plan (group_bound plan) (last_group plan) rounds
            (bounds_cut plan (2 ^ 32 - 1) is (omega arith) nodes);
      }

  -- why there is none
  pub long_so : (error : BatchError)
      → IsManyTurns
      ((IsShort (plan_listed plan) rounds → ⊥) ⊎ HaveManyTurns (plan_units plan) rounds) error
      → HasNoBatch plan rounds error
  long_so refused.Long is = is
  long_so refused.NoMemory is = tt
  long_so (refused.BufferLimit channel) is = absurd is

  pub large_so : (error : BatchError) → HasNoSizes plan rounds error → HasNoBatch plan rounds error
  large_so refused.Long is = absurd is
  large_so refused.NoMemory is = tt
  large_so (refused.BufferLimit channel) is = is
