-- The units of a plan's batch can be shared among its stages, whatever their bounds.
use Rattle.std.proofs.Common.{◌≡◌, refl, sym, ap, ◌∙◌, subst, ℕ, suc, ◌+◌, ◌-◌, ◌*◌, ◌<◌}
use Rattle.std.proofs.Common.{◌≤◌, ◌^◌, arith, List, length, All, get_or, Some, inl, inr}
use Rattle.std.specs.Prelude.{slice_get, slice_index}
use Rattle.std.proofs.lemmas.Bool.{cases_eq}
use Rattle.std.proofs.lemmas.Option.{slice_get-get_or, slice_get_within}
use Rattle.std.proofs.lemmas.Nat.{mul-le}
use Rattle.std.proofs.Math.Nat.{mul_assoc}
use Rattle.strc_elab_dataflow.specs.Order as orders
use Rattle.strc_elab_dataflow.specs.Ranges.{stage_within}
use Rattle.strc_elab_dataflow.specs.Staging.{joined}
use Rattle.strc_elab_graph.specs.Graphs.{Channel, IsGraph, JoinsPorts}
use Rattle.strc_startup.specs.Rates.{push_at}
use Rattle.strc_balance.specs.Balance.{count_limit}
use Rattle.strc_balance.proofs.Limits.{limit_is}
use Rattle.strc_sched_laws.proofs.Orders.{firing_count_is}
use Rattle.strc_sched_laws.proofs.Supplies.{element}
use Rattle.strc_sched_laws.specs.Laws.{round_order}
use Rattle.strc_sched_orders.specs.Buffers.{size_limit}
use Rattle.strc_sched_orders.specs.Greedy as order
use Rattle.strc_sched_orders.specs.Order.{firing_count}
use Rattle.strc_sched_orders.specs.Peaks.{HasNodes}
use Rattle.strc_sched_orders.specs.declared.unit as unit_type
use Rattle.strc_fuse.specs.Units.{round_units}
use Rattle.strc_fuse.proofs.Counting.{firings_same}
use Rattle.strc_stage_plan.specs.Cuts.{IsBetweenUnits, segment_of}
use Rattle.strc_stage_plan.proofs.FusedSplits.{AllPass, AreApart, apart_from, passes_all}
use Rattle.strc_stage_plan.specs.Plans.{IsPlan, PlanParts, graph_of, transformed_of}
use Rattle.strc_stage_plan.proofs.Transformed.{nodes_after}
use Rattle.strc_stage_steps.specs.Plans.{IsCut, running_of}
use Rattle.strc_stage_steps.specs.Runnings.{round_pushes}
use Rattle.strc_stage_cut.specs.Bounds.{bound_in, last_of}
use Rattle.strc_stage_cut.specs.Fired.{CanBeShared, running_by}
use Rattle.strc_stage_cut.specs.Links.{carried_between, items_between}
use Rattle.strc_stage_cut.proofs.Carried.{between_is, carried_within, crossing_is, crossing_none}
use Rattle.strc_stage_cut.proofs.Carried.{size_limit_is, staged}
use Rattle.strc_stage_cut.proofs.Parting.{port_there, source_there}
use Rattle.strc_stage_cut.proofs.RoundCounts.{counts_within}
use Rattle.strc_batch_cut.specs.Picks.{AreAmong}
use Rattle.strc_batch_laws.proofs.Batch.{count_batched}
use Rattle.strc_batch_plans.specs.Plans.{group_units}
use Rattle.strc_batch.specs.Batches.{BatchParts, IsBatchOf}
use Rattle.strc_batch.specs.Sizes.{group_bound, group_bounds, last_group}
use Rattle.strc_batch.specs.declared.listed.TheConstants.{ROUNDS_LIMIT}
use Rattle.strc_batch.proofs.Apart.{batches_apart, batches_pass, between_of, units_pass}
use Rattle.strc_batch.proofs.Apart.{within_pass}
use Rattle.strc_batch.proofs.Finest.{cut_among, group_cut}
use Rattle.strc_batch.proofs.Grouped.{grouped}
use Rattle.strc_batch.proofs.Together.{together}

rounds_limit_is : ROUNDS_LIMIT ≡ 4096
rounds_limit_is = refl

-- ---- a batch's units

module _ (plan : PlanParts) (batch : BatchParts) (is : IsPlan plan)
    (graph : IsGraph (transformed_of plan)) (nodes : 0 < length (graph_of plan).nodes)
    (of : IsBatchOf plan batch) where
  abbrev bound : ℕ → ℕ
  bound = group_bound plan

  abbrev last : ℕ
  last = last_group plan

  abbrev round : List unit_type.Unit.Unit
  round = plan.split.schedule.round

  cut : IsCut plan (group_bound plan) (suc (last_group plan))
  cut = group_cut plan is graph nodes

  -- ---- how often they fire

  segments_are : joined (segment_of bound (round_order plan.split.schedule)) (suc last)
      ≡ round_order plan.split.schedule
  segments_are =
      subst (λ (l : List ℕ). joined (segment_of bound l) (suc last) ≡ l) (sym (firings_same round))
      (sym (staged plan is bound last cut).order)

  pub counted : (node : ℕ) → orders.firing_count (order.firings_of batch.units) node
      ≡ batch.rounds * orders.firing_count (round_order plan.split.schedule) node
  counted node =
      ap (λ (l : List ℕ). orders.firing_count l node) of.firings_are
      ∙ count_batched batch.rounds (segment_of bound (round_order plan.split.schedule)) (suc last)
      node
      ∙ ap (λ (l : List ℕ). batch.rounds * orders.firing_count l node) segments_are

  counts_few : (node : ℕ) → firing_count (order.firings_of batch.units) node < 2 ^ 32
  counts_few node =
      let count : ℕ = firing_count (order.firings_of round) node in
      let most : batch.rounds * count ≤ 4096 * count_limit =
      mul-le batch.rounds count 4096 count_limit
      (omega (arith, of.short.rounds_few, rounds_limit_is)) (counts_within plan is node) in
      omega (
        arith,
        firing_count_is (order.firings_of batch.units) node,
        counted node,
        ap (λ (n : ℕ). batch.rounds * n) (firing_count_is (order.firings_of round) node),
        most,
        limit_is,
      )

  -- ---- of which nodes they are

  round_nodes : All (HasNodes (length plan.split.graph.nodes)) round
  round_nodes = nodes_after plan.graph plan.startup_counts plan.round_counts plan.schedule
      plan.split is.round is.schedule is.transformation

  pass : AllPass (λ node. node < length plan.split.graph.nodes) (round_units batch.units)
  pass = subst (AllPass (λ node. node < length plan.split.graph.nodes)) (sym of.units_are)
      (batches_pass (λ node. node < length plan.split.graph.nodes) batch.rounds
      (group_units plan bound) (suc last) (λ group less.
      within_pass (λ node. node < length plan.split.graph.nodes) (bound group)
      (bound (suc group)) round
      (passes_all (λ node. node < length plan.split.graph.nodes) round round_nodes)))

  nodes_there : All (HasNodes (length plan.split.graph.nodes)) batch.units
  nodes_there = units_pass (λ node. node < length plan.split.graph.nodes) batch.units pass

  apart : (group : ℕ) → group ≤ suc last → AreApart (bound group) (round_units batch.units)
  apart group less = subst (AreApart (bound group)) (sym of.units_are)
      (batches_apart bound (suc last) batch.rounds round cut.rising
      (λ g within. apart_from (bound g) (round_units round) (cut.units g within)) group less
      (suc last) (omega arith))

  -- ---- what channels carry

  module _ (bounds : List ℕ) (stages_cut : IsCut plan (bound_in bounds) (suc (last_of bounds)))
    where
      among : AreAmong (bound_in bounds) (suc (last_of bounds)) bound (suc last)
      among = cut_among plan is graph nodes (bound_in bounds) (suc (last_of bounds)) stages_cut

      between : (stage : ℕ) → stage ≤ suc (last_of bounds)
          → IsBetweenUnits (round_units batch.units) (bound_in bounds stage)
      between stage less =
          let (group, within, same) = among stage less in
          subst (IsBetweenUnits (round_units batch.units)) (sym same)
          (between_of (bound group) (round_units batch.units) (apart group within))

      module _ (number : ℕ) (channel : Channel)
          (is_there : slice_get (transformed_of plan).channels number ≡ Some channel) where
        abbrev pushes : ℕ
        pushes = round_pushes (running_of plan) channel

        joins : JoinsPorts (transformed_of plan).nodes channel
        joins = element (JoinsPorts (transformed_of plan).nodes) (transformed_of plan).channels
            number channel graph.channels is_there

        source_within : channel.source.node < bound (suc last)
        source_within = omega (
          arith,
          cut.all,
          source_there (transformed_of plan).nodes channel.source.node channel.source.port
              joins.source,
        )

        target_within : channel.target.node < bound (suc last)
        target_within = omega (
          arith,
          cut.all,
          port_there (transformed_of plan).nodes channel.target.node channel.target.port
              joins.target,
        )

        -- what goes from stage to stage goes from group to group
        group_apart : (stage_within (bound_in bounds) (last_of bounds) channel.source.node
            ≡ stage_within (bound_in bounds) (last_of bounds) channel.target.node → ⊥)
            → (stage_within bound last channel.source.node
            ≡ stage_within bound last channel.target.node → ⊥)
        group_apart other same = other (together (bound_in bounds) bound (last_of bounds) last
            stages_cut.rising cut.rising cut.first among channel.source.node channel.target.node
            source_within target_within same)

        -- a batch's items fit its buffer, but for a round's
        across : (stage_within bound last channel.source.node
            ≡ stage_within bound last channel.target.node → ⊥)
            → batch.rounds * pushes ≤ size_limit + size_limit
        across other =
            let sized = of.sizes_are.each number channel is_there in
            let few : slice_index batch.sizes number ≤ size_limit = of.within number 0 (omega (
              arith,
              of.sizes_are.channels,
              slice_get_within (transformed_of plan).channels number channel is_there,
            )) in
            let one : pushes ≤ size_limit = omega (
              arith,
              between_is plan (group_bounds plan) channel other,
              carried_within plan (group_bounds plan) channel (grouped plan is graph nodes) number
                  is_there,
            ) in
            let all : suc (batch.rounds - 1) * pushes ≡ batch.rounds * pushes =
            ap (λ (n : ℕ). n * pushes)
            (let e : suc (batch.rounds - 1) ≡ batch.rounds = omega (arith, of.some) in e) in
            let others : (batch.rounds - 1) * items_between plan (group_bounds plan) channel
            ≡ (batch.rounds - 1) * pushes = ap (λ (n : ℕ). (batch.rounds - 1) * n)
            (between_is plan (group_bounds plan) channel other) in
            omega (arith, sized, few, one, all, others)

        carried : (stage_within (bound_in bounds) (last_of bounds) channel.source.node
            ≡ stage_within (bound_in bounds) (last_of bounds) channel.target.node → ⊥)
            → carried_between (transformed_of plan) (running_by plan batch.units).counts bounds
            channel ≡ batch.rounds * pushes
        carried other =
            crossing_is (running_by plan batch.units) bounds channel other
            ∙ ap (λ (n : ℕ). n * push_at (transformed_of plan).nodes 1 channel.source)
            (counted channel.source.node)
            ∙ mul_assoc batch.rounds
            (orders.firing_count (round_order plan.split.schedule) channel.source.node)
            (push_at (transformed_of plan).nodes 1 channel.source)

        few : carried_between (transformed_of plan) (running_by plan batch.units).counts bounds
            channel < 2 ^ 32
        few = elim (cases_eq
            (stage_within (bound_in bounds) (last_of bounds) channel.source.node)
            (stage_within (bound_in bounds) (last_of bounds) channel.target.node)) [
              | inl same ↦ omega (
                arith,
                crossing_none (running_by plan batch.units) bounds channel same,
              )
              | inr other ↦ omega (
                arith,
                carried other,
                across (group_apart other),
                size_limit_is,
              )
            ]

      pub batch_shared : CanBeShared plan batch.units bounds
      batch_shared = record {
        nodes = nodes_there;
        between = between;
        counts_few = counts_few;
        items_few = λ number none less.
            few number (get_or (transformed_of plan).channels number none)
            (slice_get-get_or (transformed_of plan).channels number none less);
      }
