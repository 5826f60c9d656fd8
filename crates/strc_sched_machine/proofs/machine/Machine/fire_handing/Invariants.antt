use Rattle.std.proofs.Common.{drop}
use Rattle.strc_sched_rings.specs.Circuits.{circuit_view}
use Rattle.strc_sched_machine.specs.Batches.{batch_firings}
use Rattle.strc_sched_machine.specs.Handing.{IsHeld, held_view}
use Rattle.strc_sched_machine.specs.Running.{IsMachine, machine_view}
use Rattle.strc_sched_machine.proofs.Going.{Goes}
use Rattle.strc_sched_machine.proofs.machine.Machine.fire_handing.Given as goal

abbrev pub invariant-loop-place : goal.invariant-loop-place
invariant-loop-place l = record {
  machine : IsMachine (circuit_view l.circuit) l.self;
  held : IsHeld l.self.items.items l.self.rings.items l.held;
  goes : Goes (circuit_view l.circuit) (batch_firings l.batches)
      (batch_firings (drop l.place l.batches)) (machine_view l.fn.self)
      (held_view l.held l.self);
}
