use Rattle.std.proofs.Common.{◌≡◌}
use Rattle.strc_elab_dataflow.specs.Staging.{repeated}
use Rattle.strc_sched_orders.specs.Greedy.{firings_of}
use Rattle.strc_sched_laws.specs.Machine.{Went, order_run}
use Rattle.strc_sched_rings.specs.Circuits.{circuit_view}
use Rattle.strc_sched_machine.specs.Batches.{units_of}
use Rattle.strc_sched_machine.specs.Running.{IsMachine, machine_view}
use Rattle.strc_run_batches.proofs.repeated_order.fired_through.Given as goal

abbrev pub invariant-loop-turn : goal.invariant-loop-turn
invariant-loop-turn l = record {
  machine : IsMachine (circuit_view l.circuit) l.running;
  went : order_run (circuit_view l.circuit) (repeated l._turn (firings_of (units_of l.order)))
      (machine_view l.fn.machine) ≡ Went (machine_view l.running);
}
