use Rattle.std.proofs.Common.{[], ◌∷◌}
use Rattle.strc_sched_orders.specs.Order.{repeated}
use Rattle.strc_sched_rings.specs.Circuits.{circuit_view}
use Rattle.strc_sched_machine.specs.Running.{IsMachine, machine_view}
use Rattle.strc_sched_machine.proofs.Going.{Goes}
use Rattle.strc_sched_machine.proofs.machine.Machine.fire_alone.Given as goal

abbrev pub invariant-loop-left : goal.invariant-loop-left
invariant-loop-left l = record {
  machine : IsMachine (circuit_view l.circuit) l.self;
  goes : Goes (circuit_view l.circuit) (repeated l.batch.turns (l.batch.node ∷ []))
      (repeated l.left (l.batch.node ∷ [])) (machine_view l.fn.self) (machine_view l.self);
}

abbrev pub decreases-loop-left : goal.decreases-loop-left
decreases-loop-left l = l.left
