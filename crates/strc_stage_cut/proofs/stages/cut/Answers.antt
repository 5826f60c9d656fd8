use Rattle.std.proofs.Common.{◌∙◌, sym, ap, subst, ◌<◌, ℕ, List}
use Rattle.std.proofs.lemmas.List.{length-map}
use Rattle.strc_elab_graph.specs.NodeView.{node_view}
use Rattle.strc_sched_orders.specs.Schedules.{ScheduleParts}
use Rattle.strc_sched_orders.specs.declared.unit as units
use Rattle.strc_stage_cut.specs.Fired.{CanBeShared}
use Rattle.strc_stage_cut.specs.Launches.{bounds_of}
use Rattle.strc_stage_cut.proofs.Shared.{round_shared}
use Rattle.strc_stage_cut.proofs.stages.cut.Goals as goal

pub new-requires-clause-shared : goal.new-requires-clause-shared
new-requires-clause-shared c =
    let plan = c.args.plan.now in
    let some = subst (λ n. 0 < n) (sym (length-map plan.graph.nodes node_view)) c.requires.nodes in
    let round = c.round-round.ensures
    ∙ ap (λ (s : ScheduleParts). s.round) c.transformed_schedule.ensures.schedule in
    subst (λ (l : List ℕ). CanBeShared plan c.round-round.result.now l)
    (sym c.in_ok-bounds.ensures.bounds)
    (subst (λ (l : List units.Unit.Unit). CanBeShared plan l (bounds_of plan c.args.workers))
    (sym round)
    (round_shared plan c.args.workers c.known.ensures.is c.known.ensures.transformed
    c.requires.workers some))
