use Rattle.std.proofs.Common.{◌-◌}
use Rattle.strc_sched_orders.specs.Order.{repeated}
use Rattle.strc_sched_rings.specs.Circuits.{circuit_view}
use Rattle.strc_sched_machine.specs.Batches.{batch_firings}
use Rattle.strc_sched_machine.specs.Running.{IsMachine, machine_view}
use Rattle.strc_sched_machine.proofs.Going.{Goes}
use Rattle.strc_sched_machine.proofs.machine.Machine.fire_hands.Given as goal

abbrev pub invariant-loop-turn : goal.invariant-loop-turn
invariant-loop-turn l = record {
  machine : IsMachine (circuit_view l.circuit) l.self;
  goes : Goes (circuit_view l.circuit) (repeated l.turns (batch_firings l.batches))
      (repeated (l.turns - l._turn) (batch_firings l.batches)) (machine_view l.fn.self)
      (machine_view l.self);
}
