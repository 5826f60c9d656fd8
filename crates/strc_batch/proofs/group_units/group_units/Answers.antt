use Rattle.std.proofs.Common.{◌≡◌, ◌∙◌, sym, subst, length, ◌<◌, ◌≤◌, suc, List, ℕ, map, arith}
use Rattle.std.proofs.Common.{IfOk, Vec}
use Rattle.std.specs.Global.{Global}
use Rattle.std.specs.List.{range_with_len}
use Rattle.std.proofs.lemmas.List.{length-map}
use Rattle.strc_elab_graph.specs.NodeView.{node_view}
use Rattle.strc_sched_orders.specs.declared.unit as unit_type
use Rattle.strc_stage_steps.specs.Plans.{IsCut}
use Rattle.strc_stage_cut.specs.Bounds.{bound_in, last_of}
use Rattle.strc_stage_cut.specs.Cuts.{IsCutAt}
use Rattle.strc_batch_plans.specs.Plans.{group_units}
use Rattle.strc_batch.specs.Listed.{units_in}
use Rattle.strc_batch.specs.Sizes.{AreGroupsOf}
use Rattle.strc_batch.proofs.Grouped.{grouped, some_node}
use Rattle.strc_batch.proofs.group_units.group_units.Goals as goal

pub groups_of_nodes-requires-clause-some : goal.groups_of_nodes-requires-clause-some
groups_of_nodes-requires-clause-some c =
    let some = subst (λ n. 0 < n) (sym (length-map c.args.plan.now.graph.nodes node_view))
    c.requires.nodes in
    subst (λ (l : List ℕ). 2 ≤ length l) (sym (c.deref.ensures.value ∙ c.in_ok-bounds.ensures))
    (grouped c.args.plan.now c.known.ensures.is c.known.ensures.transformed some).some

pub groups_of_nodes-requires-clause-cut : goal.groups_of_nodes-requires-clause-cut
groups_of_nodes-requires-clause-cut c =
    let some = subst (λ n. 0 < n) (sym (length-map c.args.plan.now.graph.nodes node_view))
    c.requires.nodes in
    subst (λ (l : List ℕ). IsCut c.args.plan.now (bound_in l) (suc (last_of l)))
    (sym (c.deref.ensures.value ∙ c.in_ok-bounds.ensures))
    (grouped c.args.plan.now c.known.ensures.is c.known.ensures.transformed some).cut

pub parted-requires-clause-bounds : goal.parted-requires-clause-bounds
parted-requires-clause-bounds c =
    let some = subst (λ n. 0 < n) (sym (length-map c.args.plan.now.graph.nodes node_view))
    c.requires.nodes in
    subst (IsCutAt c.args.plan.now) (sym (c.deref-2.ensures.value ∙ c.in_ok-bounds.ensures))
    (grouped c.args.plan.now c.known.ensures.is c.known.ensures.transformed some)

pub parted-requires-clause-groups : goal.parted-requires-clause-groups
parted-requires-clause-groups c =
    subst (λ (l : List ℕ). AreGroupsOf c.args.plan.now l c.deref-3.result.now)
    (c.deref.ensures.value ∙ sym c.deref-2.ensures.value)
    (subst (AreGroupsOf c.args.plan.now c.deref.result.now) (sym c.deref-3.ensures.value)
    (record {
      nodes = c.in_ok-groups.ensures.nodes;
      each = c.in_ok-groups.ensures.groups;
    }))

pub parted-requires-clause-some : goal.parted-requires-clause-some
parted-requires-clause-some c =
    let some = subst (λ n. 0 < n) (sym (length-map c.args.plan.now.graph.nodes node_view))
    c.requires.nodes in
    let nodes = some_node c.args.plan.now c.known.ensures.is c.known.ensures.transformed some in
    subst (λ (l : List ℕ). 0 < length l) (sym c.deref-3.ensures.value)
    (omega (arith, c.in_ok-groups.ensures.nodes, nodes))

pub returns : goal.returns
returns c =
    subst (λ (l : List ℕ). IfOk c.parted.result (λ (parts : Vec (Vec unit_type.Unit.Unit Global)
    Global). units_in parts.items ≡ map (group_units c.args.plan.now (bound_in l))
    (range_with_len 0 (suc (last_of l)))))
    (c.deref-2.ensures.value ∙ c.in_ok-bounds.ensures) c.parted.ensures
