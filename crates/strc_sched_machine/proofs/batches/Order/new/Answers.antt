use Rattle.strc_sched_rings.specs.Circuits.{circuit_view}
use Rattle.strc_sched_machine.specs.Batches.{all_firings}
use Rattle.strc_sched_machine.proofs.BatchLists.{units_next}
use Rattle.strc_sched_machine.proofs.batches.Order.new.Goals as goal

pub loop-unit-preserved : goal.loop-unit-preserved
loop-unit-preserved c = record {
  batches = c.in_ok-add_unit.ensures.ready;
  firings = units_next (circuit_view c.args.circuit.now) c.deref-unit-items.result.now
      (all_firings c.loop-unit.lists.items) (all_firings c.add_unit.new.lists.items)
      c.loop-unit.unit-index c.unit-item.result c.loop-unit-test.true c.unit-item.is
      c.loop-unit.invariant.firings c.in_ok-add_unit.ensures.firings;
}
