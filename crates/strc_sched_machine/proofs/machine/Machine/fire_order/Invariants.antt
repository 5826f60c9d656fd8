use Rattle.std.proofs.Common.{drop}
use Rattle.strc_sched_rings.specs.Circuits.{circuit_view}
use Rattle.strc_sched_machine.specs.Batches.{all_firings}
use Rattle.strc_sched_machine.specs.Running.{IsMachine, machine_view}
use Rattle.strc_sched_machine.proofs.Going.{Goes}
use Rattle.strc_sched_machine.proofs.machine.Machine.fire_order.Given as goal

abbrev pub invariant-loop-place : goal.invariant-loop-place
invariant-loop-place l = record {
  machine : IsMachine (circuit_view l.circuit) l.self;
  goes : Goes (circuit_view l.circuit) (all_firings l.order.lists.items)
      (all_firings (drop l.place l.order.lists.items)) (machine_view l.fn.self)
      (machine_view l.self);
}
