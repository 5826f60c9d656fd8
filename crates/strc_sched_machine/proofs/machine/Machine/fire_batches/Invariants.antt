use Rattle.std.proofs.Common.{drop}
use Rattle.strc_sched_rings.specs.Circuits.{circuit_view}
use Rattle.strc_sched_machine.specs.Batches.{batch_firings}
use Rattle.strc_sched_machine.specs.Running.{IsMachine, machine_view}
use Rattle.strc_sched_machine.proofs.Going.{Goes}
use Rattle.strc_sched_machine.proofs.machine.Machine.fire_batches.Given as goal

abbrev pub invariant-loop-batch : goal.invariant-loop-batch
invariant-loop-batch l = record {
  machine : IsMachine (circuit_view l.circuit) l.self;
  goes : Goes (circuit_view l.circuit) (batch_firings l.batches)
      (batch_firings (drop l.batch-index l.batches)) (machine_view l.fn.self)
      (machine_view l.self);
}
