use Rattle.std.proofs.Common.{◌≡◌, ◌∙◌, ℕ, List, Vec, Global, ap, map}
use Rattle.strc_sched_orders.specs.Schedules.{ScheduleParts}
use Rattle.strc_cli.proofs.StagePictures.{pictured}
use Rattle.strc_cli.proofs.plan_pictures.labelled_picture.Goals as goal

pub returns : goal.returns
returns c =
    pictured c.args.plan.now c.args.workers (map (λ l. l.items) c.args.labels.now)
    c.transformed_graph.result.now (map (λ l. l.items) c.deref.result.now) c.deref-2.result.now
    c.deref-3.result.now c.transformed_sizes.result.now c.round.result.now c.deref-4.result.now
    c.in_ok-batch.batch c.in_ok-plan_picture.field-0.items c.transformed_graph.ensures
    (ap (λ (labels : List (Vec ℕ Global)). map (λ l. l.items) labels) c.deref.ensures.value
    ∙ c.in_ok-labels.ensures)
    (c.deref-2.ensures.value ∙ c.in_ok-startup.ensures)
    (c.deref-3.ensures.value ∙ c.in_ok-round.ensures) c.transformed_sizes.ensures.sizes
    (c.round.ensures ∙ ap (λ (s : ScheduleParts). s.round) c.transformed_schedule.ensures.schedule)
    (c.deref-4.ensures.value ∙ c.in_ok-bounds.ensures) c.in_ok-batch.ensures
    c.in_ok-plan_picture.ensures
