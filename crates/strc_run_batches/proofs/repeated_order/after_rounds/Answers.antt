use Rattle.std.proofs.Common.{◌≡◌, ◌∙◌, ap, subst, IfOk, ℕ, List}
use Rattle.std.specs.Prelude.{IfNone, IfSome}
use Rattle.strc_elab_dataflow.specs.Staging.{repeated}
use Rattle.strc_sched_orders.specs.Greedy.{firings_of}
use Rattle.strc_sched_orders.specs.Schedules.{ScheduleParts}
use Rattle.strc_sched_laws.specs.Machine.{Went, order_run}
use Rattle.strc_sched_rings.specs.Circuits.{circuit_view}
use Rattle.strc_sched_machine.specs.Running.{machine_view}
use Rattle.strc_run_batches.specs.Batched.{NeverGoes}
use Rattle.strc_run_batches.proofs.repeated_order.after_rounds.Goals as goal

pub returns-clause-went : goal.returns-clause-went
returns-clause-went c =
    let same = c.in_ok-round.ensures.firings
    ∙ ap firings_of (c.round.ensures
    ∙ ap (λ (s : ScheduleParts). s.round) c.transformed_schedule.ensures.schedule) in
    subst (λ (l : List ℕ). IfOk c.fired_through.result (λ found. IfSome found (λ later.
    order_run (circuit_view c.args.circuit.now) (repeated c.args.rounds l)
    (machine_view c.args.machine) ≡ Went (machine_view later)))) same
    c.fired_through.ensures.went

pub returns-clause-faulted : goal.returns-clause-faulted
returns-clause-faulted c =
    let same = c.in_ok-round.ensures.firings
    ∙ ap firings_of (c.round.ensures
    ∙ ap (λ (s : ScheduleParts). s.round) c.transformed_schedule.ensures.schedule) in
    subst (λ (l : List ℕ). IfOk c.fired_through.result (λ found. IfNone found (NeverGoes
    (circuit_view c.args.circuit.now) (repeated c.args.rounds l) (machine_view c.args.machine))))
    same c.fired_through.ensures.faulted
