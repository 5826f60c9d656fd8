-- What a channel carries in a round from stage to stage: all firings of its source come before
-- those of its target, so that its buffer holds them at once.
use Rattle.std.proofs.Common.{◌≡◌, refl, sym, ap, ap₂, ◌∙◌, subst, ℕ, zero, suc, ◌+◌, ◌-◌, ◌*◌}
use Rattle.std.proofs.Common.{◌<◌, ◌≤◌, ◌^◌, arith, Bool, true, false, cond, List, [], ◌∷◌, ◌++◌}
use Rattle.std.proofs.Common.{length, map, get_or, All, append_assoc, append-nil, Some, slice_get}
use Rattle.std.proofs.Common.{slice_index, inl, inr}
use Rattle.std.specs.Prelude.{not, eqb, if◌then◌else◌}
use Rattle.std.proofs.lemmas.Bool.{cases_order, cases_eq, eq-eqb, ne_eqb}
use Rattle.std.proofs.lemmas.List.{length-map}
use Rattle.std.proofs.lemmas.Option.{same_Some, none-some, slice_get_within, slice_get-get_or}
use Rattle.std.proofs.Math.Nat.{mul_comm}
use Rattle.strc_elab_dataflow.specs.Flat as flat
use Rattle.strc_elab_dataflow.specs.FusedUnits.{RoundUnit, firings_of}
use Rattle.strc_elab_dataflow.specs.Order as orders
use Rattle.strc_elab_dataflow.specs.Cut.{cut}
use Rattle.strc_elab_dataflow.specs.Ranges.{stage_within}
use Rattle.strc_elab_dataflow.specs.Staging.{IsStaged, before, joined}
use Rattle.strc_elab_dataflow.proofs.Ranges.{bounds_from, within_at_most, within_from, within_below}
use Rattle.strc_elab_dataflow.proofs.Segments.{joined_count, less_before, not_before}
use Rattle.strc_elab_graph.specs.Graphs.{Channel, Graph, NodeCode}
use Rattle.strc_elab_graph.specs.NodeView.{graph_view}
use Rattle.strc_elab_stream.specs.Flattening.{tree_of}
use Rattle.strc_startup.specs.Rates.{push_at}
use Rattle.strc_startup.specs.declared.channel_rates.ChannelRates.{ChannelRates}
use Rattle.strc_sched_laws.proofs.Orders.{firing_count_is}
use Rattle.strc_sched_laws.proofs.Peaks.{front_fill}
use Rattle.strc_sched_orders.specs.Buffers.{peak_fill, size_limit}
use Rattle.strc_sched_orders.specs.Firings.{Firings, none_fired, fill}
use Rattle.strc_sched_orders.specs.Greedy as order
use Rattle.strc_sched_orders.specs.Order.{after, firing_count}
use Rattle.strc_sched_orders.specs.RoundRates.{round_pop, round_rates_of_channel}
use Rattle.strc_sched_orders.specs.Sizing.{rates_on, all_rates_on, round_rates_on}
use Rattle.strc_sched_orders.proofs.Continuing.{supply_by_work, popped_by_work}
use Rattle.strc_fuse.proofs.Counting.{firings_same}
use Rattle.strc_fiss.specs.Numbers.{base}
use Rattle.strc_fiss.specs.Splitting.{Wire, new_code, split_wires}
use Rattle.strc_fiss.proofs.Lookup.{part_many}
use Rattle.strc_stage_plan.proofs.Members.{each_in}
use Rattle.strc_stage_plan.proofs.Sources.{there_in}
use Rattle.strc_stage_plan.specs.Cuts.{IsBetweenGroups, IsCutOf, segment_of}
use Rattle.strc_stage_plan.specs.Plans.{IsPlan, PlanParts, graph_of, transformed_of}
use Rattle.strc_stage_plan.specs.Runs.{graph_after}
use Rattle.strc_stage_steps.specs.Beginnings.{crosses}
use Rattle.strc_stage_steps.specs.Plans.{IsCut, running_of}
use Rattle.strc_stage_steps.specs.Runnings.{Running, round_pushes}
use Rattle.strc_stage_steps.proofs.NewForward.{new_forward}
use Rattle.strc_stage_steps.proofs.Plans.{fused_fission, graph_is, new, share, threshold}
use Rattle.strc_stage_steps.proofs.Plans.{units, ways}
use Rattle.strc_stage_steps.proofs.Staged.{split_cuts_are_staged}
use Rattle.strc_stage_cut.specs.Bounds.{bound_in, last_of}
use Rattle.strc_stage_cut.specs.Cuts.{IsCutAt}
use Rattle.strc_stage_cut.specs.Links.{carried_between, items_between}

pub size_limit_is : size_limit ≡ 16777216
size_limit_is = refl

-- the items on a channel in a round, by how many it has when the round begins
rates_there : (nodes : List NodeCode) (channels : List Channel) (fills : List ℕ) (number : ℕ)
    (channel : Channel) → length fills ≡ length channels → slice_get channels number ≡ Some channel
    → (items : ℕ) × (slice_get (all_rates_on (map (round_rates_of_channel nodes) channels) fills)
    number ≡ Some (rates_on (round_rates_of_channel nodes channel) items))
rates_there nodes [] fills number channel each there = absurd (none-some channel there)
rates_there nodes (first ∷ channels) [] number channel each there = absurd (omega (arith, each))
rates_there nodes (first ∷ channels) (items ∷ fills) zero channel each there = (
  items,
  ap (λ (c : Channel). Some (rates_on (round_rates_of_channel nodes c) items))
      (same_Some first channel there),
)
rates_there nodes (first ∷ channels) (items ∷ fills) (suc number) channel each there =
    rates_there nodes channels fills number channel (omega (arith, each)) there

round_fill : (nodes : List NodeCode) (channel : Channel) (items : ℕ) (counts : Firings)
    → fill (rates_on (round_rates_of_channel nodes channel) items) counts
    ≡ (items + push_at nodes 1 channel.source * counts channel.source.node)
    - round_pop nodes channel.target * counts channel.target.node
round_fill nodes channel items counts = ap₂ (λ (a b : ℕ). a - b)
    (supply_by_work (round_rates_of_channel nodes channel) items (counts channel.source.node))
    (popped_by_work (round_rates_of_channel nodes channel) items (counts channel.target.node))

-- the segments after some
rest_of : (segment : ℕ → List ℕ) (b more : ℕ)
    → (rest : List ℕ) × (joined segment b ++ rest ≡ joined segment (b + more))
unfolding joined
rest_of segment b zero =
    let e : b ≡ b + 0 = omega arith in
    ([], append-nil (joined segment b) ∙ ap (λ (n : ℕ). joined segment n) e)
rest_of segment b (suc more) =
    let (rest, is) = rest_of segment b more in
    let e : suc (b + more) ≡ b + suc more = omega arith in (
      rest ++ segment (b + more),
      sym (append_assoc (joined segment b) rest (segment (b + more)))
          ∙ ap (λ (l : List ℕ). l ++ segment (b + more)) is
          ∙ ap (λ (n : ℕ). joined segment n) e,
    )

module _ (plan : PlanParts) (is : IsPlan plan) (bound : ℕ → ℕ) (last : ℕ)
    (is_cut : IsCut plan bound (suc last)) where
  abbrev pub stage_of : ℕ → ℕ
  stage_of = stage_within bound last

  abbrev pub order_of : List ℕ
  order_of = firings_of (units plan is)

  abbrev pub segment : ℕ → List ℕ
  segment = segment_of bound (firings_of (units plan is))

  abbrev pub flow : flat.Graph NodeCode
  flow = graph_after (tree_of is.whole.stream) (graph_of plan) plan.schedule plan.round_counts
      (ways plan is)

  new_cut : IsCutOf (new plan is) (units plan is) bound (suc last)
  new_cut = subst (λ (g : Graph). IsCutOf g (units plan is) bound (suc last)) (graph_is plan is)
      is_cut

  pub staged : IsStaged flow stage_of segment (suc last) order_of
  staged = split_cuts_are_staged is.whole.stream (graph_of plan) plan.schedule plan.round_counts
      (ways plan is) (threshold plan is) (units plan is) bound last (fused_fission plan is) new_cut

  -- a bound is one of the nodes' numbers, or their end
  bound_there : (stage : ℕ) → stage ≤ suc last
      → bound stage ≤ base (share plan is) (length (graph_of plan).nodes)
  bound_there stage less = omega (
    arith,
    bounds_from bound (suc last) is_cut.rising stage (suc last) less (omega arith),
    new_cut.all,
    part_many (share plan is) (new_code (share plan is) (graph_of plan).nodes)
        (length (graph_of plan).nodes),
  )

  module _ (number : ℕ) (channel : Channel)
      (there : slice_get (transformed_of plan).channels number ≡ Some channel) where
    abbrev source : ℕ
    source = channel.source.node

    abbrev target : ℕ
    target = channel.target.node

    -- no channel goes back across a bound
    forward : (stage : ℕ) → stage ≤ suc last → target < bound stage → source < bound stage
    forward stage less =
        each_in (λ (c : Channel). c.target.node < bound stage → c.source.node < bound stage) channel
        (new plan is).channels
        (new_forward is.whole.stream (graph_of plan) is.whole.closed.typed is.whole.program
        is.whole.loops plan.round_counts (ways plan is) (bound stage) (bound_there stage less)
        (new_cut.between stage less) plan.schedule.greatest plan.schedule.last)
        (there_in channel (new plan is).channels number
        (ap (λ (g : Graph). slice_get g.channels number) (sym (graph_is plan is)) ∙ there))

    comes_first : (stage_of source ≡ stage_of target → ⊥) → stage_of source < stage_of target
    comes_first apart = elim (cases_order (stage_of source) (stage_of target)) [
      | inl same ↦ absurd (apart same)
      | inr other ↦ elim other [
        | inl less ↦ less
        | inr more ↦
            let most = within_at_most bound last source in
            absurd (omega (
              arith,
              forward (suc (stage_of target)) (omega (arith, more, most))
                  (within_below bound last target (omega (arith, more, most))),
              within_from bound last source (omega (arith, more)),
              bounds_from bound (suc last) is_cut.rising (suc (stage_of target)) (stage_of source)
                  more (omega (arith, most)),
            ))
      ]
    ]

    -- ---- before the target's stage

    abbrev front : List ℕ
    front = joined segment (stage_of target)

    abbrev round_count : ℕ → ℕ
    round_count = orders.firing_count (firings_of (units plan is))

    front_counts : (node : ℕ) → orders.firing_count front node
        ≡ cut (before stage_of (stage_of target)) round_count node
    front_counts = joined_count flow stage_of segment (suc last) order_of staged round_count
        (λ v. refl) (stage_of target) (omega (arith, within_at_most bound last target))

    source_fired : stage_of source < stage_of target
        → orders.firing_count front source ≡ round_count source
    unfolding cut
    source_fired less = front_counts source
        ∙ ap (λ (t : Bool). cond t (round_count source) 0)
        (less_before stage_of (stage_of target) source less)

    target_waits : orders.firing_count front target ≡ 0
    unfolding cut
    target_waits = front_counts target
        ∙ ap (λ (t : Bool). cond t (round_count target) 0)
        (not_before stage_of (stage_of target) target (omega arith))

    front_is : (rest : List ℕ)
        × (front ++ rest ≡ order.firings_of plan.split.schedule.round)
    front_is =
        let most = within_at_most bound last target in
        let (rest, same) = rest_of segment (stage_of target) (suc last - stage_of target) in
        let e : stage_of target + (suc last - stage_of target) ≡ suc last =
        omega (arith, most) in (
          rest,
          same ∙ ap (λ (n : ℕ). joined segment n) e ∙ sym staged.order
              ∙ sym (firings_same plan.split.schedule.round),
        )

    -- ---- the buffer

    abbrev wires : List Wire
    wires = split_wires (share plan is) (graph_of plan) plan.schedule.greatest plan.schedule.last

    fills_each : length is.transformation.transformed.unfused.last
        ≡ length (transformed_of plan).channels
    fills_each =
        ap length is.transformation.transformed.fission.last
        ∙ length-map wires (λ (wire : Wire). wire.last)
        ∙ sym (length-map wires (λ (wire : Wire). wire.channel))
        ∙ ap (λ (g : Graph). length g.channels) (sym (graph_is plan is))

    size_within : slice_index plan.split.schedule.sizes number ≤ size_limit
    size_within = is.transformation.transformed.fusion.within number 0 (omega (
      arith,
      slice_get_within (transformed_of plan).channels number channel there,
      is.transformation.transformed.fusion.each,
    ))

    pushes_within : stage_of source < stage_of target
        → round_pushes (running_of plan) channel ≤ size_limit
    pushes_within less =
        let nodes = (transformed_of plan).nodes in
        let round = order.firings_of plan.split.schedule.round in
        let (rest, same) = front_is in
        let (items, at) = rates_there nodes (transformed_of plan).channels
        is.transformation.transformed.unfused.last number channel fills_each there in
        let rates : ChannelRates = rates_on (round_rates_of_channel nodes channel) items in
        let pushes : ℕ = push_at nodes 1 channel.source in
        let counted : after none_fired front source ≡ (running_of plan).counts source = omega (
          arith,
          firing_count_is front source,
          source_fired less,
          ap (λ (l : List ℕ). orders.firing_count l source)
              (firings_same plan.split.schedule.round),
        ) in
        let waits : after none_fired front target ≡ 0 =
        omega (arith, firing_count_is front target, target_waits) in
        omega (
          arith,
          size_within,
          is.transformation.transformed.fusion.sizes number rates at,
          front_fill rates none_fired front rest round same,
          round_fill nodes channel items (after none_fired front),
          ap (λ (n : ℕ). pushes * n) counted,
          ap (λ (n : ℕ). round_pop nodes channel.target * n) waits,
          mul_comm pushes ((running_of plan).counts source),
        )

-- a channel that crosses carries all that its source pushes
module _ (running : Running) (bounds : List ℕ) (channel : Channel) where
  abbrev own_stage : ℕ → ℕ
  own_stage = stage_within (bound_in bounds) (last_of bounds)

  pub crossing_is : (own_stage channel.source.node ≡ own_stage channel.target.node → ⊥)
      → carried_between running.graph running.counts bounds channel ≡ round_pushes running channel
  crossing_is apart =
      ap (λ (t : Bool). if not t then round_pushes running channel else 0)
      (ne_eqb (own_stage channel.source.node) (own_stage channel.target.node) apart)

  pub crossing_none : own_stage channel.source.node ≡ own_stage channel.target.node
      → carried_between running.graph running.counts bounds channel ≡ 0
  crossing_none same =
      ap (λ (t : Bool). if not t then round_pushes running channel else 0)
      (eq-eqb (own_stage channel.source.node) (own_stage channel.target.node) same)

-- in a round that is no more than there may be in its buffer
module _ (plan : PlanParts) (bounds : List ℕ) (channel : Channel) where
  abbrev stage_at : ℕ → ℕ
  stage_at = stage_within (bound_in bounds) (last_of bounds)

  pub between_is : (stage_at channel.source.node ≡ stage_at channel.target.node → ⊥)
      → items_between plan bounds channel ≡ round_pushes (running_of plan) channel
  between_is = crossing_is (running_of plan) bounds channel

  pub carried_within : IsCutAt plan bounds → (number : ℕ)
      → slice_get (transformed_of plan).channels number ≡ Some channel
      → items_between plan bounds channel ≤ size_limit
  carried_within at number there =
      elim (cases_eq (stage_at channel.source.node) (stage_at channel.target.node)) [
        | inl same ↦ omega (arith, crossing_none (running_of plan) bounds channel same)
        | inr apart ↦ omega (
          arith,
          between_is apart,
          pushes_within plan at.is (bound_in bounds) (last_of bounds) at.cut number channel there
              (comes_first plan at.is (bound_in bounds) (last_of bounds) at.cut number channel
              there apart),
        )
      ]

-- so what is carried fits 32 bits
pub carried_few : (plan : PlanParts) (bounds : List ℕ) → IsCutAt plan bounds
    → All (λ (channel : Channel). items_between plan bounds channel < 2 ^ 32)
    (transformed_of plan).channels
carried_few plan bounds at number none less =
    let channel : Channel = get_or (transformed_of plan).channels number none in
    omega (
      arith,
      size_limit_is,
      carried_within plan bounds channel at number
          (slice_get-get_or (transformed_of plan).channels number none less),
    )
