use Rattle.std.proofs.Common.{◌∙◌, ap, subst, List}
use Rattle.strc_sched_orders.specs.Greedy.{firings_of}
use Rattle.strc_sched_orders.specs.Schedules.{ScheduleParts}
use Rattle.strc_sched_orders.specs.declared.unit as units
use Rattle.strc_sched_laws.specs.Machine.{rounds_run}
use Rattle.strc_sched_rings.specs.Circuits.{circuit_view}
use Rattle.strc_sched_machine.specs.Running.{machine_view}
use Rattle.strc_sched.specs.Plain.{IsEnding}
use Rattle.strc_run_workers.proofs.alone.run_rounds.Goals as goal

pub returns-in-Ok-clause-ending : goal.returns-in-Ok-clause-ending
returns-in-Ok-clause-ending c =
    let circuit = circuit_view c.args.circuit.now in
    record {
      own = c.in-Ok.outcome;
      ending = subst (λ (l : List units.Unit.Unit). IsEnding circuit.codes c.in-Ok.outcome
          (rounds_run circuit (firings_of l) c.args.rounds 0 (machine_view c.args.machine)))
          (c.round-round.ensures
          ∙ ap (λ (s : ScheduleParts). s.round) c.transformed_schedule.ensures.schedule)
          c.in-Ok.ensures.ending;
      renamed = c.renamed.ensures;
    }
