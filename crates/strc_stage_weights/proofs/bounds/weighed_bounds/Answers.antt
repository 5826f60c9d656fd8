use Rattle.std.proofs.Common.{◌∙◌, ◌-◌, ◌<◌, ◌≤◌, ◌^◌, sym, ap, subst, suc, length, List, ℕ}
use Rattle.std.proofs.Common.{arith, min, slice_index}
use Rattle.std.proofs.lemmas.List.{length-map}
use Rattle.strc_elab_graph.specs.NodeView.{GraphParts, node_view}
use Rattle.strc_fuse.specs.Units.{round_units}
use Rattle.strc_sched_orders.specs.Greedy.{firings_of}
use Rattle.strc_sched_orders.specs.Schedules.{ScheduleParts}
use Rattle.strc_sched_orders.specs.declared.unit as units
use Rattle.strc_stage_plan.specs.Bounds.{stage_bounds}
use Rattle.strc_stage_plan.specs.Plans.{transformed_of}
use Rattle.strc_stage_steps.specs.Plans.{plan_stages}
use Rattle.strc_stage_weights.specs.FiringWork.{firing_works}
use Rattle.strc_stage_weights.specs.StageBounds.{AreStageBounds, bounds_by_weight}
use Rattle.strc_stage_weights.specs.declared.unit_work.TheConstants.{ROUND_WORK_LIMIT}
use Rattle.strc_stage_weights.proofs.WeighedBounds.{bounds_are_found, few_nodes, light_works}
use Rattle.strc_stage_weights.proofs.WeighedBounds.{many_works, of_stages, starts_many}
use Rattle.strc_stage_weights.proofs.WeighedBounds.{starts_rise, starts_within, weights_many}
use Rattle.strc_stage_weights.proofs.bounds.weighed_bounds.Goals as goal

pub group_weights-requires-clause-some : goal.group_weights-requires-clause-some
group_weights-requires-clause-some c =
    let plan = c.args.plan.now in
    let some = subst (λ n. 0 < n) (sym (length-map c.args.plan.now.graph.nodes node_view))
    c.requires.nodes in
    let each = c.known.ensures.transformed.outer_loops in
    let round = c.round-round.ensures
    ∙ ap (λ (s : ScheduleParts). s.round) c.transformed_schedule.ensures.schedule in
    let starts = c.in_ok-starts.ensures
    ∙ ap (λ (g : GraphParts). stage_bounds g.outer_loops (round_units c.round-round.result.now)
    (2 ^ 32 - 1)) c.transformed_graph-graph.ensures
    ∙ ap (λ (l : List units.Unit.Unit). stage_bounds plan.split.graph.outer_loops (round_units l)
    (2 ^ 32 - 1)) round in
    let listed = c.deref-2.ensures.value ∙ starts in
    omega (
      arith,
      ap length listed,
      starts_many plan c.known.ensures.is some c.args.workers c.requires.workers each,
    )

pub group_weights-requires-clause-rising : goal.group_weights-requires-clause-rising
group_weights-requires-clause-rising c =
    let plan = c.args.plan.now in
    let some = subst (λ n. 0 < n) (sym (length-map c.args.plan.now.graph.nodes node_view))
    c.requires.nodes in
    let each = c.known.ensures.transformed.outer_loops in
    let round = c.round-round.ensures
    ∙ ap (λ (s : ScheduleParts). s.round) c.transformed_schedule.ensures.schedule in
    let starts = c.in_ok-starts.ensures
    ∙ ap (λ (g : GraphParts). stage_bounds g.outer_loops (round_units c.round-round.result.now)
    (2 ^ 32 - 1)) c.transformed_graph-graph.ensures
    ∙ ap (λ (l : List units.Unit.Unit). stage_bounds plan.split.graph.outer_loops (round_units l)
    (2 ^ 32 - 1)) round in
    subst (λ (l : List ℕ). (group : ℕ) → suc group < length l
    → slice_index l group ≤ slice_index l (suc group))
    (sym (c.deref-2.ensures.value ∙ starts))
    (starts_rise plan c.known.ensures.is some c.args.workers c.requires.workers each)

pub group_weights-requires-clause-within : goal.group_weights-requires-clause-within
group_weights-requires-clause-within c =
    let plan = c.args.plan.now in
    let some = subst (λ n. 0 < n) (sym (length-map c.args.plan.now.graph.nodes node_view))
    c.requires.nodes in
    let each = c.known.ensures.transformed.outer_loops in
    let round = c.round-round.ensures
    ∙ ap (λ (s : ScheduleParts). s.round) c.transformed_schedule.ensures.schedule in
    let starts = c.in_ok-starts.ensures
    ∙ ap (λ (g : GraphParts). stage_bounds g.outer_loops (round_units c.round-round.result.now)
    (2 ^ 32 - 1)) c.transformed_graph-graph.ensures
    ∙ ap (λ (l : List units.Unit.Unit). stage_bounds plan.split.graph.outer_loops (round_units l)
    (2 ^ 32 - 1)) round in
    let works = c.deref.ensures.value ∙ c.in_ok-works.ensures in
    let many = ap length works
    ∙ many_works (transformed_of plan).nodes (firings_of plan.split.schedule.round) in
    subst (λ (l : List ℕ). (group : ℕ) → group < length l
    → slice_index l group ≤ length c.deref.result.now)
    (sym (c.deref-2.ensures.value ∙ starts))
    (λ group less. omega (
      arith,
      many,
      starts_within plan c.known.ensures.is some c.args.workers c.requires.workers each group less,
    ))

pub group_weights-requires-clause-few : goal.group_weights-requires-clause-few
group_weights-requires-clause-few c =
    let plan = c.args.plan.now in
    let works = c.deref.ensures.value ∙ c.in_ok-works.ensures in
    let many = ap length works
    ∙ many_works (transformed_of plan).nodes (firings_of plan.split.schedule.round) in
    omega (arith, many, few_nodes plan c.known.ensures.is)

pub group_weights-requires-clause-light : goal.group_weights-requires-clause-light
group_weights-requires-clause-light c =
    let plan = c.args.plan.now in
    let works = c.deref.ensures.value ∙ c.in_ok-works.ensures in
    subst (λ (l : List ℕ). (node : ℕ) → slice_index l node ≤ ROUND_WORK_LIMIT) (sym works)
    (light_works (firing_works (transformed_of plan).nodes)
    (firings_of plan.split.schedule.round))

pub bounds_by_weight-requires-clause-starts : goal.bounds_by_weight-requires-clause-starts
bounds_by_weight-requires-clause-starts c =
    let plan = c.args.plan.now in
    let some = subst (λ n. 0 < n) (sym (length-map c.args.plan.now.graph.nodes node_view))
    c.requires.nodes in
    let each = c.known.ensures.transformed.outer_loops in
    let round = c.round-round.ensures
    ∙ ap (λ (s : ScheduleParts). s.round) c.transformed_schedule.ensures.schedule in
    let starts = c.in_ok-starts.ensures
    ∙ ap (λ (g : GraphParts). stage_bounds g.outer_loops (round_units c.round-round.result.now)
    (2 ^ 32 - 1)) c.transformed_graph-graph.ensures
    ∙ ap (λ (l : List units.Unit.Unit). stage_bounds plan.split.graph.outer_loops (round_units l)
    (2 ^ 32 - 1)) round in
    let listed = ap length (c.deref-2.ensures.value ∙ starts) in
    let again = ap length (c.deref-3.ensures.value ∙ starts) in
    omega (
      arith,
      listed,
      again,
      starts_many plan c.known.ensures.is some c.args.workers c.requires.workers each,
      ap length c.deref-4.ensures.value,
      ap length c.in_ok-weights.ensures.weights,
      weights_many (slice_index c.deref.result.now) (slice_index c.deref-2.result.now)
          (length c.deref-2.result.now - 1),
    )

pub returns-clause-bounds : goal.returns-clause-bounds
returns-clause-bounds c =
    let plan = c.args.plan.now in
    let some = subst (λ n. 0 < n) (sym (length-map c.args.plan.now.graph.nodes node_view))
    c.requires.nodes in
    let each = c.known.ensures.transformed.outer_loops in
    let round = c.round-round.ensures
    ∙ ap (λ (s : ScheduleParts). s.round) c.transformed_schedule.ensures.schedule in
    let starts = c.in_ok-starts.ensures
    ∙ ap (λ (g : GraphParts). stage_bounds g.outer_loops (round_units c.round-round.result.now)
    (2 ^ 32 - 1)) c.transformed_graph-graph.ensures
    ∙ ap (λ (l : List units.Unit.Unit). stage_bounds plan.split.graph.outer_loops (round_units l)
    (2 ^ 32 - 1)) round in
    let works = c.deref.ensures.value ∙ c.in_ok-works.ensures in
    let count = c.min-stages.ensures
    ∙ ap (λ (n : ℕ). min n c.args.workers) (c.len.ensures ∙ sym c.deref-4.ensures.len
    ∙ ap length c.deref-4.ensures.value) in
    let made = c.in_ok-bounds_by_weight.ensures
    ∙ ap (λ (l : List ℕ). bounds_by_weight l c.deref-4.result.now c.min-stages.result)
    (c.deref-3.ensures.value ∙ sym c.deref-2.ensures.value)
    ∙ ap (λ (l : List ℕ). bounds_by_weight c.deref-2.result.now l c.min-stages.result)
    c.deref-4.ensures.value in
    let found = bounds_are_found plan c.known.ensures.is some c.args.workers c.requires.workers each
    c.deref.result.now c.deref-2.result.now c.in_ok-weights.weights.items
    c.in_ok-bounds_by_weight.field-0.items c.min-stages.result works
    (c.deref-2.ensures.value ∙ starts) c.in_ok-weights.ensures.weights
    count made in
    found

pub returns-clause-stages : goal.returns-clause-stages
returns-clause-stages c =
    let plan = c.args.plan.now in
    let some = subst (λ n. 0 < n) (sym (length-map c.args.plan.now.graph.nodes node_view))
    c.requires.nodes in
    let each = c.known.ensures.transformed.outer_loops in
    let round = c.round-round.ensures
    ∙ ap (λ (s : ScheduleParts). s.round) c.transformed_schedule.ensures.schedule in
    let starts = c.in_ok-starts.ensures
    ∙ ap (λ (g : GraphParts). stage_bounds g.outer_loops (round_units c.round-round.result.now)
    (2 ^ 32 - 1)) c.transformed_graph-graph.ensures
    ∙ ap (λ (l : List units.Unit.Unit). stage_bounds plan.split.graph.outer_loops (round_units l)
    (2 ^ 32 - 1)) round in
    let works = c.deref.ensures.value ∙ c.in_ok-works.ensures in
    let count = c.min-stages.ensures
    ∙ ap (λ (n : ℕ). min n c.args.workers) (c.len.ensures ∙ sym c.deref-4.ensures.len
    ∙ ap length c.deref-4.ensures.value) in
    let made = c.in_ok-bounds_by_weight.ensures
    ∙ ap (λ (l : List ℕ). bounds_by_weight l c.deref-4.result.now c.min-stages.result)
    (c.deref-3.ensures.value ∙ sym c.deref-2.ensures.value)
    ∙ ap (λ (l : List ℕ). bounds_by_weight c.deref-2.result.now l c.min-stages.result)
    c.deref-4.ensures.value in
    let found = bounds_are_found plan c.known.ensures.is some c.args.workers c.requires.workers each
    c.deref.result.now c.deref-2.result.now c.in_ok-weights.weights.items
    c.in_ok-bounds_by_weight.field-0.items c.min-stages.result works
    (c.deref-2.ensures.value ∙ starts) c.in_ok-weights.ensures.weights
    count made in
    subst (AreStageBounds plan (plan_stages plan c.args.workers)) (sym found)
    (of_stages plan c.known.ensures.is some c.args.workers c.requires.workers)
