use Rattle.std.proofs.Common.{subst, Err}
use Rattle.strc_sched_orders.specs.Greedy.{firings_of}
use Rattle.strc_sched_laws.specs.Machine.{order_run}
use Rattle.strc_sched_rings.specs.Circuits.{circuit_view}
use Rattle.strc_sched_machine.specs.Batches.{units_of}
use Rattle.strc_sched_machine.specs.Running.{HasGone, machine_view}
use Rattle.strc_sched_outcome.specs.declared.stop.Stop.{Stop}
use Rattle.strc_run_batches.proofs.Turns.{stopped_in, went_first, went_more}
use Rattle.strc_run_batches.proofs.repeated_order.fired_through.Goals as goal

pub loop-turn-init : goal.loop-turn-init
loop-turn-init c = record {
  machine = c.requires.machine;
  went = went_first (circuit_view c.args.circuit.now) (firings_of (units_of c.args.order.now))
      (machine_view c.args.machine);
}

pub loop-turn-preserved : goal.loop-turn-preserved
loop-turn-preserved c = record {
  machine = c.fire_order.ensures.machine;
  went = went_more (circuit_view c.args.circuit.now) (firings_of (units_of c.args.order.now))
      (machine_view c.args.machine) c.loop-turn._turn (machine_view c.loop-turn.running)
      (machine_view c.fire_order.new.self) c.loop-turn.invariant.went c.in-Ok.ensures.gone.0;
}

pub returns-in-Err-Fault-clause-faulted : goal.returns-in-Err-Fault-clause-faulted
returns-in-Err-Fault-clause-faulted c =
    let circuit = circuit_view c.args.circuit.now in
    let order = firings_of (units_of c.args.order.now) in
    let now = machine_view c.loop-turn.running in
    let gone = subst (λ (why : Stop). HasGone (order_run circuit order now) (Err why) now.words
    (machine_view c.fire_order.new.self)) c.in-Err-Fault.field-0-is c.in-Err-Fault.ensures.gone in
    stopped_in circuit order (machine_view c.args.machine) c.loop-turn._turn c.args.times now
    c.in-Err-Fault.field-0-0 c.in-Err-Fault.field-0-1 c.in-Err-Fault.field-0-2
    c.loop-turn-test.true c.loop-turn.invariant.went gone.0
