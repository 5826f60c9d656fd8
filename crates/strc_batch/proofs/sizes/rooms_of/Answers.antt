use Rattle.std.proofs.Common.{◌∙◌, sym, ap, subst, length, ◌<◌, ◌≤◌, ◌^◌, suc, List, ℕ, All}
use mathlib.Core.Path.{fun_ext}
use Rattle.std.proofs.lemmas.List.{length-map}
use Rattle.strc_balance.specs.Balance.{count_at}
use Rattle.strc_elab_graph.specs.Graphs.{Channel}
use Rattle.strc_elab_graph.specs.NodeView.{node_view}
use Rattle.strc_sched_orders.specs.Greedy.{firings_of}
use Rattle.strc_sched_orders.specs.Order.{firing_count}
use Rattle.strc_sched_orders.specs.Schedules.{ScheduleParts}
use Rattle.strc_sched_orders.specs.declared.unit as units
use Rattle.strc_sched_laws.proofs.Orders.{firing_count_is}
use Rattle.strc_stage_plan.specs.Plans.{transformed_of}
use Rattle.strc_stage_steps.specs.Plans.{IsCut}
use Rattle.strc_stage_cut.specs.Bounds.{bound_in, last_of}
use Rattle.strc_stage_cut.specs.Links.{items_between}
use Rattle.strc_stage_cut.proofs.Carried.{carried_few}
use Rattle.strc_stage_cut.proofs.RoundCounts.{counts_few}
use Rattle.strc_batch.specs.Sizes.{AreGroupsOf, group_bounds}
use Rattle.strc_batch.proofs.Grouped.{grouped}
use Rattle.strc_batch.proofs.sizes.rooms_of.Goals as goal

pub groups_of_nodes-requires-clause-some : goal.groups_of_nodes-requires-clause-some
groups_of_nodes-requires-clause-some c =
    let some = subst (λ n. 0 < n) (sym (length-map c.args.plan.now.graph.nodes node_view))
    c.requires.nodes in
    subst (λ (l : List ℕ). 2 ≤ length l) (sym (c.deref.ensures.value ∙ c.in_ok-bounds.ensures))
    (grouped c.args.plan.now c.known.ensures.is c.known.ensures.transformed some).some

pub groups_of_nodes-requires-clause-cut : goal.groups_of_nodes-requires-clause-cut
groups_of_nodes-requires-clause-cut c =
    let some = subst (λ n. 0 < n) (sym (length-map c.args.plan.now.graph.nodes node_view))
    c.requires.nodes in
    subst (λ (l : List ℕ). IsCut c.args.plan.now (bound_in l) (suc (last_of l)))
    (sym (c.deref.ensures.value ∙ c.in_ok-bounds.ensures))
    (grouped c.args.plan.now c.known.ensures.is c.known.ensures.transformed some).cut

pub firing_counts-requires-clause-few : goal.firing_counts-requires-clause-few
firing_counts-requires-clause-few c =
    let plan = c.args.plan.now in
    let round = c.round-round.ensures
    ∙ ap (λ (s : ScheduleParts). s.round) c.transformed_schedule.ensures.schedule in
    subst (λ (l : List units.Unit.Unit). (node : ℕ) → firing_count (firings_of l) node < 2 ^ 32)
    (sym round) (counts_few plan c.known.ensures.is)

pub rooms_by-requires-clause-counts : goal.rooms_by-requires-clause-counts
rooms_by-requires-clause-counts c =
    let round = firings_of c.args.plan.now.split.schedule.round in
    ap count_at c.deref-4.ensures.value
    ∙ c.in_ok-counts.ensures
    ∙ ap (λ (l : List units.Unit.Unit). firing_count (firings_of l)) (c.round-round.ensures
    ∙ ap (λ (s : ScheduleParts). s.round) c.transformed_schedule.ensures.schedule)
    ∙ fun_ext (λ node. sym (firing_count_is round node))

pub rooms_by-requires-clause-groups : goal.rooms_by-requires-clause-groups
rooms_by-requires-clause-groups c =
    subst (λ (l : List ℕ). AreGroupsOf c.args.plan.now l c.deref-3.result.now)
    (c.deref.ensures.value ∙ sym c.deref-2.ensures.value)
    (subst (AreGroupsOf c.args.plan.now c.deref.result.now) (sym c.deref-3.ensures.value)
    (record {
      nodes = c.in_ok-groups.ensures.nodes;
      each = c.in_ok-groups.ensures.groups;
    }))

pub rooms_by-requires-clause-joins : goal.rooms_by-requires-clause-joins
rooms_by-requires-clause-joins c = c.known.ensures.transformed.channels

pub rooms_by-requires-clause-few : goal.rooms_by-requires-clause-few
rooms_by-requires-clause-few c =
    let plan = c.args.plan.now in
    let some = subst (λ n. 0 < n) (sym (length-map c.args.plan.now.graph.nodes node_view))
    c.requires.nodes in
    subst (λ (l : List ℕ). All (λ (channel : Channel). items_between plan l channel < 2 ^ 32)
    (transformed_of plan).channels) (sym (c.deref-2.ensures.value ∙ c.in_ok-bounds.ensures))
    (carried_few plan (group_bounds plan)
    (grouped plan c.known.ensures.is c.known.ensures.transformed some))
