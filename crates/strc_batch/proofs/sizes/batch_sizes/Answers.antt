use Rattle.std.proofs.Common.{◌≡◌, ◌∙◌, ◌<◌, ◌+◌, ◌*◌, ◌-◌, sym, ap, length, ℕ}
use Rattle.std.proofs.lemmas.List.{length-map}
use Rattle.std.proofs.lemmas.Result.{IfErr-weaker}
use Rattle.std.specs.Prelude.{slice_index}
use Rattle.strc_elab_graph.specs.NodeView.{channel_view}
use Rattle.strc_stage_plan.specs.Plans.{transformed_of}
use Rattle.strc_stage_cut.specs.Links.{items_between}
use Rattle.strc_batch_plans.specs.Plans.{AreBatchSizes}
use Rattle.strc_batch.specs.Sizes.{AreSizesFor, group_bound, group_bounds, last_group}
use Rattle.strc_batch.specs.Sizes.{HasNoSizes, IsPastOrMemory}
use Rattle.strc_batch.proofs.Sizing.{if_both, none_are, sizes_are, suffices}
use Rattle.strc_batch.proofs.sizes.batch_sizes.Goals as goal

pub enlarged-requires : goal.enlarged-requires
enlarged-requires c =
    let plan = c.args.plan.now in
    record {
      each = ap length (c.deref.ensures.value ∙ c.in_ok-rooms.ensures.rooms)
          ∙ length-map (transformed_of plan).channels (items_between plan (group_bounds plan))
          ∙ length-map plan.split.graph.channels channel_view
          ∙ sym c.transformed_sizes-sizes.ensures.channels;
    }

pub returns-clause-sizes : goal.returns-clause-sizes
returns-clause-sizes c =
    let plan = c.args.plan.now in
    let before = c.transformed_sizes-sizes.result.now in
    let rooms = c.deref.result.now in
    let same = c.transformed_sizes-sizes.ensures.channels
    ∙ sym (length-map plan.split.graph.channels channel_view) in
    if_both c.enlarged.result (λ larger. length larger.items ≡ length before)
    (λ larger. (channel : ℕ) → channel < length before → slice_index larger.items channel
    ≡ slice_index before channel + (c.args.rounds - 1) * slice_index rooms channel)
    (λ larger. AreSizesFor plan c.args.rounds larger.items)
    (λ larger long each. sizes_are plan c.args.rounds before rooms
    c.transformed_sizes-sizes.ensures.sizes same
    (c.deref.ensures.value ∙ c.in_ok-rooms.ensures.rooms) larger.items long each)
    c.enlarged.ensures.each c.enlarged.ensures.sizes

pub returns-clause-suffice : goal.returns-clause-suffice
returns-clause-suffice c =
    let plan = c.args.plan.now in
    let before = c.transformed_sizes-sizes.result.now in
    let rooms = c.deref.result.now in
    let same = c.transformed_sizes-sizes.ensures.channels
    ∙ sym (length-map plan.split.graph.channels channel_view) in
    if_both c.enlarged.result (λ larger. length larger.items ≡ length before)
    (λ larger. (channel : ℕ) → channel < length before → slice_index larger.items channel
    ≡ slice_index before channel + (c.args.rounds - 1) * slice_index rooms channel)
    (λ larger. AreBatchSizes plan (group_bound plan) (last_group plan) c.args.rounds larger.items)
    (λ larger long each. suffices plan c.args.rounds larger.items
    (sizes_are plan c.args.rounds before rooms c.transformed_sizes-sizes.ensures.sizes same
    (c.deref.ensures.value ∙ c.in_ok-rooms.ensures.rooms) larger.items long each))
    c.enlarged.ensures.each c.enlarged.ensures.sizes

pub returns-clause-none : goal.returns-clause-none
returns-clause-none c =
    let plan = c.args.plan.now in
    let before = c.transformed_sizes-sizes.result.now in
    let rooms = c.deref.result.now in
    let same = c.transformed_sizes-sizes.ensures.channels
    ∙ sym (length-map plan.split.graph.channels channel_view) in
    let size = λ (number : ℕ). slice_index before number
    + (c.args.rounds - 1) * slice_index rooms number in
    IfErr-weaker c.enlarged.result (IsPastOrMemory (length before) size)
    (HasNoSizes plan c.args.rounds)
    (none_are plan c.args.rounds before rooms c.transformed_sizes-sizes.ensures.sizes same
    (c.deref.ensures.value ∙ c.in_ok-rooms.ensures.rooms)) c.enlarged.ensures.none
