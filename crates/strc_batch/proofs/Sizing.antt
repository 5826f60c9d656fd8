-- Sizes of buffers for batches, by those for a round and by what channels carry in one.
use Rattle.std.proofs.Common.{◌≡◌, ap, ◌∙◌, ℕ, ◌+◌, ◌*◌, ◌-◌, ◌<◌, List, [], length, map}
use Rattle.std.proofs.Common.{get_or, arith, Result, Ok, Err, IfOk}
use Rattle.std.specs.Prelude.{Some, slice_get, slice_index}
use Rattle.std.proofs.lemmas.List.{get_or-map}
use Rattle.std.proofs.lemmas.Option.{slice_get_within, get_or_from_slice_get, slice_get-get_or}
use Rattle.strc_elab_graph.specs.Graphs.{Channel}
use Rattle.strc_stage_plan.specs.Plans.{PlanParts, transformed_of}
use Rattle.strc_stage_steps.specs.Plans.{running_of}
use Rattle.strc_stage_steps.specs.Runnings.{round_pushes}
use Rattle.strc_stage_cut.specs.Links.{items_between}
use Rattle.strc_stage_cut.proofs.Carried.{between_is}
use Rattle.strc_batch_plans.specs.Plans.{AreBatchSizes, size_across}
use Rattle.strc_batch.specs.Sizes.{AreSizesFor, IsFirstPast, IsFirstTooLarge, size_for}
use Rattle.strc_batch.specs.Sizes.{group_bound, group_bounds, last_group, HasNoSizes}
use Rattle.strc_batch.specs.Sizes.{IsPastOrMemory}
use Rattle.strc_batch.specs.declared.error.BatchError.{BatchError}
use Rattle.strc_batch.specs.declared.error.BatchError.TheVariants as refused

pub if_both : {A E : Type 0} (result : Result A E) (P Q R : A → Type 0)
    → ((x : A) → P x → Q x → R x) → IfOk result P → IfOk result Q → IfOk result R
if_both (Ok value) P Q R step one other = step value one other
if_both (Err error) P Q R step one other = tt

no_channel : Channel
no_channel = record {
  enqueued = [];
  source = record { node = 0; port = 0 };
  target = record { node = 0; port = 0 };
}

module _ (plan : PlanParts) (rounds : ℕ) (before rooms : List ℕ)
    (before_is : before ≡ plan.split.schedule.sizes)
    (same : length before ≡ length (transformed_of plan).channels)
    (rooms_are : rooms
    ≡ map (items_between plan (group_bounds plan)) (transformed_of plan).channels) where
  abbrev channels : List Channel
  channels = (transformed_of plan).channels

  abbrev size_at : ℕ → ℕ
  size_at number =
      slice_index before number + (rounds - 1) * slice_index rooms number

  room_at : (number : ℕ) (channel : Channel) → slice_get channels number ≡ Some channel
      → slice_index rooms number ≡ items_between plan (group_bounds plan) channel
  room_at number channel there =
      ap (λ (l : List ℕ). slice_index l number) rooms_are
      ∙ get_or-map (items_between plan (group_bounds plan)) channels number channel 0
      (slice_get_within channels number channel there)
      ∙ ap (items_between plan (group_bounds plan))
      (get_or_from_slice_get channels number channel channel there)

  size_is : (number : ℕ) (channel : Channel) → slice_get channels number ≡ Some channel
      → size_at number ≡ size_for plan rounds number channel
  size_is number channel there =
      ap (λ (n : ℕ). slice_index before number + (rounds - 1) * n) (room_at number channel there)
      ∙ ap (λ (l : List ℕ). size_across rounds (slice_index l number)
      (items_between plan (group_bounds plan) channel)) before_is

  pub sizes_are : (sizes : List ℕ) → length sizes ≡ length before
      → ((number : ℕ) → number < length before
      → slice_index sizes number ≡ size_at number)
      → AreSizesFor plan rounds sizes
  sizes_are sizes long each = record {
    channels = long ∙ same;
    each = λ number channel there.
        each number (omega (arith, same, slice_get_within channels number channel there))
        ∙ size_is number channel there;
  }

  too_large : (first : ℕ) → IsFirstPast (length before) size_at first
      → IsFirstTooLarge plan rounds first
  too_large first is =
      let channel : Channel = get_or channels first no_channel in
      let there : slice_get channels first ≡ Some channel =
      slice_get-get_or channels first no_channel (omega (arith, same, is.there)) in record {
        channel = channel;
        there = there;
        past = omega (arith, is.past, size_is first channel there);
        lower = λ number other less other_there.
            omega (arith, is.lower number less, size_is number other other_there);
      }

  pub none_are : (error : BatchError)
      → IsPastOrMemory (length before) size_at error
      → HasNoSizes plan rounds error
  none_are (refused.BufferLimit channel) is = too_large channel is
  none_are refused.NoMemory is = tt
  none_are refused.Long is = absurd is

-- such sizes suffice
pub suffices : (plan : PlanParts) (rounds : ℕ) (sizes : List ℕ) → AreSizesFor plan rounds sizes
    → AreBatchSizes plan (group_bound plan) (last_group plan) rounds sizes
suffices plan rounds sizes are = record {
  within = λ number channel there same. omega (arith, are.each number channel there);
  across = λ number channel there apart.
      let size = slice_index plan.split.schedule.sizes number in
      let e : slice_index sizes number
      ≡ size_across rounds size (round_pushes (running_of plan) channel) =
      are.each number channel there
      ∙ ap (size_across rounds size) (between_is plan (group_bounds plan) channel apart) in
      omega (arith, e);
}
