-- The bounds by the work of a plan's nodes: they are a cut, and they are found by the list of all
-- groups' bounds.
use Rattle.std.proofs.Common.{◌≡◌, sym, ap, ◌∙◌, subst, ℕ, zero, suc, ◌+◌, ◌-◌, ◌<◌, ◌≤◌, ◌^◌}
use Rattle.std.proofs.Common.{refl, List, ◌∷◌, length, map, min, inl, inr, arith, Option}
use Rattle.std.specs.Prelude.{not, slice_index}
use Rattle.std.specs.List.{range_with_len}
use Rattle.std.proofs.Math.Nat.{min-eq_left}
use Rattle.std.proofs.lemmas.Bool.{cases_lt}
use Rattle.std.proofs.lemmas.List.{get_or_past, length-map}
use Rattle.std.proofs.lemmas.List.Filters.{length-filter_both}
use Rattle.std.proofs.lemmas.List.FromFn.{length-range_with_len}
use Rattle.std.proofs.lemmas.List.FromFn.{get_or-map-range_with_len, length-map-range_with_len}
use Rattle.strc_elab_dataflow.proofs.Ranges.{bounds_from}
use Rattle.strc_elab_dataflow.specs.FusedUnits.{RoundUnit}
use Rattle.strc_elab_graph.specs.Graphs.{Graph, NodeCode}
use Rattle.strc_fuse.specs.Units.{round_units}
use Rattle.strc_fiss.specs.Numbers.{node_limit}
use Rattle.strc_fiss.specs.Splitting.{new_code}
use Rattle.strc_fiss.specs.Ways.{fission_of}
use Rattle.strc_fiss.proofs.Lookup.{part_many}
use Rattle.strc_batch_cut.specs.Picks.{picked, AreAmong, IsPick}
use Rattle.strc_batch_cut.specs.Plans.{group_bound, plan_groups}
use Rattle.strc_batch_cut.specs.Weighed.{weighed_group}
use Rattle.strc_batch_cut.specs.Work.{group_weights, plan_weights, work_between, work_bound}
use Rattle.strc_batch_cut.proofs.Picks.{within_groups}
use Rattle.strc_batch_cut.proofs.Plans.{few, groups_cut, staged}
use Rattle.strc_batch_cut.proofs.Weighed.{weighed_groups_are_picks}
use Rattle.strc_sched_orders.specs.Order.{firing_count}
use Rattle.strc_stage_plan.specs.Bounds.{group_starts, stage_bounds, stage_count}
use Rattle.strc_stage_plan.specs.Bounds.{begins_at, bound_at}
use Rattle.strc_stage_plan.specs.Plans.{IsPlan, PlanParts, graph_of, transformed_of}
use Rattle.strc_stage_plan.proofs.Shares.{bounds_are_listed}
use Rattle.strc_stage_steps.specs.Plans.{IsCut, plan_stages}
use Rattle.strc_stage_weights.specs.FiringWork.{firing_work, firing_works}
use Rattle.strc_stage_weights.specs.Laws.{WeighedBoundsAreOfStages}
use Rattle.strc_stage_weights.specs.RoundWork.{node_works, round_works, work_in_round, work_of}
use Rattle.strc_stage_weights.specs.StageBounds.{AreStageBounds, bounds_by_weight, weighed_bounds}
use Rattle.strc_stage_weights.specs.declared.unit_work.TheConstants.{ROUND_WORK_LIMIT}
use Rattle.strc_stage_weights.proofs.PickedGroups.{picked_groups_are_a_cut}

-- lists of values that are the same within a range
same_within : (value other : ℕ → ℕ) (first count : ℕ)
    → ((n : ℕ) → n < first + count → value n ≡ other n)
    → map value (range_with_len first count) ≡ map other (range_with_len first count)
same_within value other first zero same = refl
same_within value other first (suc count) same =
    ap (λ (n : ℕ). n ∷ map value (range_with_len (first + 1) count))
    (same first (omega arith))
    ∙ ap (λ (l : List ℕ). other first ∷ l)
    (same_within value other (first + 1) count (λ n less. same n (omega (arith, less))))

-- no node has more work than the limit
pub light_works : (firings order : List ℕ) (node : ℕ)
    → slice_index (round_works firings order) node ≤ ROUND_WORK_LIMIT
light_works firings order node =
    let work : ℕ → ℕ =
    λ n. work_in_round (firing_count order n) (slice_index firings n) in
    elim (cases_lt node (length firings)) [
      | inl less ↦ omega (
        arith,
        get_or-map-range_with_len work 0 (length firings) node node 0 less (omega arith),
      )
      | inr past ↦ omega (
        arith,
        get_or_past (round_works firings order) node 0
            (omega (arith, past, length-map-range_with_len work 0 (length firings))),
      )
    ]

-- as many weights as groups
pub weights_many : (work bound : ℕ → ℕ) (groups : ℕ)
    → length (group_weights work bound groups) ≡ groups
weights_many work bound groups =
    length-map-range_with_len (λ group. work_between work (bound group) (bound (suc group))) 0
    groups

pub many_works : (nodes : List NodeCode) (order : List ℕ)
    → length (round_works (firing_works nodes) order) ≡ length nodes
many_works nodes order =
    length-map-range_with_len
    (λ n. work_in_round (firing_count order n) (slice_index (firing_works nodes) n)) 0
    (length (firing_works nodes))
    ∙ length-map nodes firing_work

module _ (plan : PlanParts) (is : IsPlan plan) where
  -- fission makes no more nodes than a program may have
  pub few_nodes : length (transformed_of plan).nodes ≤ node_limit
  few_nodes =
      let split = is.transformation.transformed.fission in
      let share = fission_of (graph_of plan) plan.round_counts is.transformation.ways in
      omega (
        arith,
        ap (λ (g : Graph). length g.nodes) split.graph,
        part_many share (new_code share (graph_of plan).nodes) (length (graph_of plan).nodes),
        split.few,
      )

  module _ (nodes : 0 < length (graph_of plan).nodes) (workers : ℕ) (works : 0 < workers) where
    abbrev groups : ℕ
    groups = plan_groups plan

    abbrev stages : ℕ
    stages = plan_stages plan workers

    abbrev weights : List ℕ
    weights = plan_weights plan (work_of plan)

    abbrev pick : (stage : ℕ) → ℕ
    pick = weighed_group (plan_weights plan (work_of plan)) (plan_groups plan)
        (plan_stages plan workers)

    picks : IsPick pick stages groups
    picks = weighed_groups_are_picks weights groups stages (staged plan is nodes workers works)
        (few plan is nodes workers works)

    bound_is : (stage : ℕ) → stage ≤ stages
        → slice_index (weighed_bounds plan workers) stage ≡ group_bound plan (pick stage)
    bound_is stage less =
        get_or-map-range_with_len (work_bound plan (work_of plan) workers) 0 (suc stages) stage
        stage 0 (omega (arith, less)) (omega arith)

    many : length (weighed_bounds plan workers) ≡ suc stages
    many = length-map-range_with_len (work_bound plan (work_of plan) workers) 0 (suc stages)

    last : stages ≡ suc (length (weighed_bounds plan workers) - 2)
    last = omega (arith, many, staged plan is nodes workers works)

    pub of_stages : AreStageBounds plan (plan_stages plan workers) (weighed_bounds plan workers)
    of_stages =
        let bounds = weighed_bounds plan workers in
        let both = picked_groups_are_a_cut plan pick (slice_index bounds) stages is nodes picks
        bound_is in
        record {
          many = many;
          some = omega (arith, many, staged plan is nodes workers works);
          cut = subst (IsCut plan (slice_index bounds)) last both.0;
          whole = subst (λ (n : ℕ). AreAmong (slice_index bounds) n (group_bound plan) groups)
              last both.1;
        }

    -- the list of the bounds of all groups, which 32 bits count
    module _ (each : length (transformed_of plan).outer_loops
        ≡ length (transformed_of plan).nodes) where
      abbrev loops : List (Option ℕ)
      loops = (transformed_of plan).outer_loops

      abbrev units : List RoundUnit
      units = round_units plan.split.schedule.round

      abbrev pub starts : List ℕ
      starts = stage_bounds (transformed_of plan).outer_loops
          (round_units plan.split.schedule.round) (2 ^ 32 - 1)

      few_groups : groups ≤ 2 ^ 32 - 1
      few_groups = omega (
        arith,
        length-filter_both (begins_at loops units) (λ node. not (begins_at loops units node))
            (λ node. refl) (range_with_len 0 (length loops)),
        length-range_with_len 0 (length loops),
        each,
        few_nodes,
      )

      count : stage_count loops units (2 ^ 32 - 1) ≡ groups
      count = min-eq_left few_groups

      own_count : stage_count loops units groups ≡ groups
      own_count = min-eq_left (let e : groups ≤ groups = omega arith in e)

      pub starts_many : length starts ≡ suc groups
      starts_many = (bounds_are_listed loops units (2 ^ 32 - 1)).0 ∙ ap suc count

      start_is : (group : ℕ) → group ≤ groups → slice_index starts group ≡ group_bound plan group
      start_is group less =
          (bounds_are_listed loops units (2 ^ 32 - 1)).1 group (omega (arith, less, count))
          ∙ ap (λ (n : ℕ). bound_at (length loops) (group_starts loops units) n group)
          (count ∙ sym own_count)

      cut : IsCut plan (group_bound plan) groups
      cut = groups_cut plan is nodes

      pub starts_rise : (group : ℕ) → suc group < length starts
          → slice_index starts group ≤ slice_index starts (suc group)
      starts_rise group less = omega (
        arith,
        start_is group (omega (arith, less, starts_many)),
        start_is (suc group) (omega (arith, less, starts_many)),
        cut.rising group (omega (arith, less, starts_many)),
      )

      pub starts_within : (group : ℕ) → group < length starts
          → slice_index starts group ≤ length (transformed_of plan).nodes
      starts_within group less = omega (
        arith,
        start_is group (omega (arith, less, starts_many)),
        bounds_from (group_bound plan) groups cut.rising group groups
            (omega (arith, less, starts_many)) (omega arith),
        cut.all,
      )

      weights_same : group_weights (work_of plan) (slice_index starts) groups ≡ weights
      weights_same =
          same_within
          (λ group. work_between (work_of plan) (slice_index starts group)
          (slice_index starts (suc group)))
          (λ group. work_between (work_of plan) (group_bound plan group)
          (group_bound plan (suc group))) 0 groups
          (λ group less.
          ap (λ (n : ℕ). work_between (work_of plan) n (slice_index starts (suc group)))
          (start_is group (omega (arith, less)))
          ∙ ap (work_between (work_of plan) (group_bound plan group))
          (start_is (suc group) (omega (arith, less))))

      by_groups : bounds_by_weight starts weights stages ≡ weighed_bounds plan workers
      by_groups =
          ap (λ (n : ℕ). map (picked (slice_index starts) (weighed_group weights n stages))
          (range_with_len 0 (suc stages)))
          (weights_many (work_of plan) (group_bound plan) groups)
          ∙ same_within (picked (slice_index starts) pick)
          (work_bound plan (work_of plan) workers) 0 (suc stages)
          (λ stage less. start_is (pick stage)
          (within_groups pick stages groups picks stage (omega (arith, less))))

      pub bounds_are_found : (work_list start_list weight_list bounds : List ℕ) (count : ℕ)
          → work_list ≡ node_works plan → start_list ≡ starts
          → weight_list ≡ group_weights (slice_index work_list) (slice_index start_list)
          (length start_list - 1)
          → count ≡ min (length weight_list) workers
          → bounds ≡ bounds_by_weight start_list weight_list count
          → bounds ≡ weighed_bounds plan workers
      bounds_are_found work_list start_list weight_list bounds count works_e starts_e weights_e
          count_e bounds_e =
          let groups_e : length starts - 1 ≡ groups = omega (arith, starts_many) in
          let weights_are : weight_list ≡ weights =
          weights_e
          ∙ ap (λ (l : List ℕ). group_weights (slice_index l) (slice_index start_list)
          (length start_list - 1)) works_e
          ∙ ap (λ (l : List ℕ). group_weights (work_of plan) (slice_index l) (length l - 1))
          starts_e
          ∙ ap (group_weights (work_of plan) (slice_index starts)) groups_e
          ∙ weights_same in
          let count_is : count ≡ stages =
          count_e ∙ ap (λ (n : ℕ). min n workers) (ap length weights_are
          ∙ weights_many (work_of plan) (group_bound plan) groups) in
          bounds_e
          ∙ ap (λ (l : List ℕ). bounds_by_weight l weight_list count) starts_e
          ∙ ap (λ (l : List ℕ). bounds_by_weight starts l count) weights_are
          ∙ ap (bounds_by_weight starts weights) count_is
          ∙ by_groups

pub weighed_bounds_are_of_stages : WeighedBoundsAreOfStages
weighed_bounds_are_of_stages plan workers is works nodes = of_stages plan is nodes workers works
