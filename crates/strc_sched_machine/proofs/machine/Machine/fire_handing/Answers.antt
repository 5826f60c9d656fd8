use Rattle.std.proofs.Common.{refl, drop, get_or, ◌+◌, ◌∷◌, []}
use Rattle.strc_sched_orders.specs.Order.{repeated}
use Rattle.strc_sched_laws.specs.Machine.{order_run}
use Rattle.strc_sched_rings.specs.Circuits.{circuit_view}
use Rattle.strc_sched_machine.specs.Batches.{batch_firings}
use Rattle.strc_sched_machine.specs.Handing.{held_view}
use Rattle.strc_sched_machine.specs.Running.{machine_view}
use Rattle.strc_sched_machine.proofs.BatchLists.{batches_left, past_end}
use Rattle.strc_sched_machine.proofs.ByHand.{halted_so}
use Rattle.strc_sched_machine.proofs.Going.{goes_on, goes_so, stops_so, wants_so}
use Rattle.strc_sched_machine.proofs.machine.Machine.fire_handing.Goals as goal

pub returns-in-Err-clause-gone : goal.returns-in-Err-clause-gone
returns-in-Err-clause-gone c =
    let circuit = circuit_view c.args.circuit.now in
    let all = c.args.batches.now in
    let place = c.loop-place.place in
    let batch = get_or all place past_end in
    let before = machine_view c.args.self.now in
    let now = held_view c.loop-place.held c.loop-place.self in
    let after = held_view c.fire_with.new.held c.fire_with.new.self in
    halted_so (order_run circuit (batch_firings all) before) c.in-Err.stop before.words after
    (machine_view c.fire_with.new.self) refl
    (stops_so circuit (batch_firings all) (repeated batch.turns (batch.node ∷ []))
    (batch_firings (drop (place + 1) all)) before now after c.in-Err.stop
    (goes_so circuit (batch_firings all) (batch_firings (drop place all)) _ before now
    (batches_left all place past_end c.loop-place-test.true) c.loop-place.invariant.goes)
    c.in-Err.ensures.gone)

pub returns-in-Err-clause-memory : goal.returns-in-Err-clause-memory
returns-in-Err-clause-memory c =
    let circuit = circuit_view c.args.circuit.now in
    let all = c.args.batches.now in
    let place = c.loop-place.place in
    let batch = get_or all place past_end in
    let before = machine_view c.args.self.now in
    let now = held_view c.loop-place.held c.loop-place.self in
    wants_so circuit (batch_firings all) (repeated batch.turns (batch.node ∷ []))
    (batch_firings (drop (place + 1) all)) before now c.in-Err.stop
    (goes_so circuit (batch_firings all) (batch_firings (drop place all)) _ before now
    (batches_left all place past_end c.loop-place-test.true) c.loop-place.invariant.goes)
    c.in-Err.ensures.memory

pub loop-place-preserved : goal.loop-place-preserved
loop-place-preserved c =
    let circuit = circuit_view c.args.circuit.now in
    let all = c.args.batches.now in
    let place = c.loop-place.place in
    let batch = get_or all place past_end in
    let before = machine_view c.args.self.now in
    let now = held_view c.loop-place.held c.loop-place.self in
    record {
      machine = c.fire_with.ensures.machine;
      held = c.fire_with.ensures.held;
      goes = goes_on circuit (batch_firings all) (repeated batch.turns (batch.node ∷ []))
          (batch_firings (drop (place + 1) all)) before now
          (held_view c.fire_with.new.held c.fire_with.new.self)
          (goes_so circuit (batch_firings all) (batch_firings (drop place all)) _ before now
          (batches_left all place past_end c.loop-place-test.true) c.loop-place.invariant.goes)
          c.in-Ok.ensures.gone.0 c.in-Ok.ensures.gone.1;
    }
