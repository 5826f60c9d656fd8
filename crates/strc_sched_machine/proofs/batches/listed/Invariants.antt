use Rattle.std.proofs.Common.{◌≡◌, All, take}
use Rattle.strc_sched_rings.specs.Circuits.{circuit_view}
use Rattle.strc_sched_machine.specs.Batches.{IsBatch, batch_firings, in_circuit}
use Rattle.strc_sched_machine.proofs.batches.listed.Given as goal

abbrev pub invariant-loop-node : goal.invariant-loop-node
invariant-loop-node l = record {
  ready : All (IsBatch (circuit_view l.circuit)) l.batches.items;
  firings : batch_firings l.batches.items
      ≡ in_circuit (circuit_view l.circuit) (take l.node-index l.nodes);
}
