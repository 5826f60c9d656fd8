use Rattle.std.proofs.Common.{◌≡◌, ◌∙◌, sym, ap, subst, List}
use Rattle.strc_sched_orders.specs.Schedules.{ScheduleParts}
use Rattle.strc_sched_orders.specs.declared.unit as units
use Rattle.strc_sched_rings.specs.Circuits.{circuit_view}
use Rattle.strc_sched_machine.specs.Running.{machine_view}
use Rattle.strc_stage_cut.specs.Cuts.{IsCutting}
use Rattle.strc_stage_cut.specs.Startups.{IsStartup}
use Rattle.strc_stage_cut.proofs.Shared.{begun_so}
use Rattle.strc_stage_cut.proofs.plan_start.launched.Goals as goal

pub ring_of-requires-clause-cut : goal.ring_of-requires-clause-cut
ring_of-requires-clause-cut c =
    subst (λ (l : List units.Unit.Unit). IsCutting c.args.plan.now l c.args.cut.now)
    (sym (c.round-round.ensures
    ∙ ap (λ (s : ScheduleParts). s.round) c.transformed_schedule.ensures.schedule))
    c.requires.stages.cutting

pub returns-in_ok-ring-in-Ended : goal.returns-in_ok-ring-in-Ended
returns-in_ok-ring-in-Ended c =
    let plan = c.args.plan.now in
    let started = subst (IsStartup plan c.args.input.now) c.in-Ended.is c.in_ok-circuit.ensures in
    begun_so plan c.args.input.now c.args.rounds c.args.workers c.args.cut.now
    c.round-round.result.now (circuit_view c.in-Ended.circuit) (machine_view c.in-Ended.machine)
    c.in_ok-ring-in-Ended.ring c.requires.stages
    (c.round-round.ensures
    ∙ ap (λ (s : ScheduleParts). s.round) c.transformed_schedule.ensures.schedule)
    started.0 c.in_ok-ring-in-Ended.ensures
