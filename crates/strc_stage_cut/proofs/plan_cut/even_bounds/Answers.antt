use Rattle.std.proofs.Common.{◌≡◌, ◌∙◌, sym, ap, subst, ◌<◌, IfOk, List, ℕ}
use Rattle.std.proofs.lemmas.List.{length-map}
use Rattle.strc_elab_graph.specs.NodeView.{GraphParts, node_view}
use Rattle.strc_sched_orders.specs.Schedules.{ScheduleParts}
use Rattle.strc_sched_orders.specs.declared.unit as units
use Rattle.strc_fuse.specs.Units.{round_units}
use Rattle.strc_stage_plan.specs.Bounds.{stage_bounds}
use Rattle.strc_stage_cut.proofs.Shared.{cuts_at}
use Rattle.strc_stage_cut.proofs.plan_cut.even_bounds.Goals as goal

pub returns-clause-bounds : goal.returns-clause-bounds
returns-clause-bounds c =
    let plan = c.args.plan.now in
    let round = c.round-round.ensures
    ∙ ap (λ (s : ScheduleParts). s.round) c.transformed_schedule.ensures.schedule in
    subst (λ (l : List ℕ). IfOk c.stage_bounds.result (λ bounds. bounds.items ≡ l))
    (ap (λ (g : GraphParts). stage_bounds g.outer_loops (round_units c.round-round.result.now)
    c.args.workers) c.transformed_graph.ensures
    ∙ ap (λ (l : List units.Unit.Unit). stage_bounds plan.split.graph.outer_loops (round_units l)
    c.args.workers) round) c.stage_bounds.ensures

pub returns-clause-cut : goal.returns-clause-cut
returns-clause-cut c =
    let plan = c.args.plan.now in
    let some = subst (λ n. 0 < n) (sym (length-map plan.graph.nodes node_view)) c.requires.nodes in
    cuts_at plan c.args.workers c.known.ensures.is c.known.ensures.transformed c.requires.workers
    some c.stage_bounds.result (returns-clause-bounds c)
