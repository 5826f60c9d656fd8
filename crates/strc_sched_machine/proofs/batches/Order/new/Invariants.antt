use Rattle.std.proofs.Common.{◌≡◌, All, take}
use Rattle.strc_sched_orders.specs.Greedy.{firings_of}
use Rattle.strc_sched_rings.specs.Circuits.{circuit_view}
use Rattle.strc_sched_machine.specs.Batches.{AreBatches, all_firings, in_circuit}
use Rattle.strc_sched_machine.proofs.batches.Order.new.Given as goal

abbrev pub invariant-loop-unit : goal.invariant-loop-unit
invariant-loop-unit l = record {
  batches : All (AreBatches (circuit_view l.circuit)) l.lists.items;
  firings : all_firings l.lists.items
      ≡ in_circuit (circuit_view l.circuit) (firings_of (take l.unit-index l.unit-items));
}
