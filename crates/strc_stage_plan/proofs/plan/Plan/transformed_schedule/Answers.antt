use Rattle.std.proofs.Common.{◌∙◌, sym, ap, subst, All, length}
use Rattle.strc_sched_orders.specs.Peaks.{HasNodes}
use Rattle.strc_sched_orders.specs.Schedules.{ScheduleParts}
use Rattle.strc_stage_plan.specs.Plans.{PlanParts}
use Rattle.strc_stage_plan.proofs.Transformed.{nodes_after}
use Rattle.strc_stage_plan.proofs.plan.Plan.transformed_schedule.Goals as goal

pub returns-clause-nodes : goal.returns-clause-nodes
returns-clause-nodes c =
    let plan = c.behind-self.inside in
    let is = c.behind-self.invariant in
    let seen = c.behind-self.view_is ∙ c.shared.ensures in
    subst (λ (schedule : ScheduleParts). All (HasNodes (length c.args.self.now.split.graph.nodes))
    schedule.round) (ap (λ (p : PlanParts). p.split.schedule) (sym seen) ∙ sym c.schedule.ensures)
    (subst (λ (p : PlanParts). All (HasNodes (length p.split.graph.nodes)) p.split.schedule.round)
    seen
    (nodes_after plan.graph plan.startup_counts plan.round_counts plan.schedule plan.split is.round
    is.schedule is.transformation))
