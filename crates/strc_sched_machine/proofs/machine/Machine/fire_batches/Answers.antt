use Rattle.std.proofs.Common.{drop, get_or, ◌+◌, ◌∷◌, []}
use Rattle.strc_sched_orders.specs.Order.{repeated}
use Rattle.strc_sched_rings.specs.Circuits.{circuit_view}
use Rattle.strc_sched_machine.specs.Batches.{batch_firings}
use Rattle.strc_sched_machine.specs.Running.{machine_view}
use Rattle.strc_sched_machine.proofs.BatchLists.{batches_left, past_end}
use Rattle.strc_sched_machine.proofs.Going.{goes_on, goes_so, stops_so, wants_so}
use Rattle.strc_sched_machine.proofs.machine.Machine.fire_batches.Goals as goal

pub returns-in-Err-clause-gone : goal.returns-in-Err-clause-gone
returns-in-Err-clause-gone c =
    let circuit = circuit_view c.args.circuit.now in
    let all = c.args.batches.now in
    let place = c.loop-batch.batch-index in
    let batch = get_or all place past_end in
    let before = machine_view c.args.self.now in
    let now = machine_view c.loop-batch.self in
    stops_so circuit (batch_firings all) (repeated batch.turns (batch.node ∷ []))
    (batch_firings (drop (place + 1) all)) before now (machine_view c.fire_batch.new.self)
    c.in-Err.stop
    (goes_so circuit (batch_firings all) (batch_firings (drop place all)) _ before now
    (batches_left all place past_end c.loop-batch-test.true) c.loop-batch.invariant.goes)
    c.in-Err.ensures.gone

pub returns-in-Err-clause-memory : goal.returns-in-Err-clause-memory
returns-in-Err-clause-memory c =
    let circuit = circuit_view c.args.circuit.now in
    let all = c.args.batches.now in
    let place = c.loop-batch.batch-index in
    let batch = get_or all place past_end in
    let before = machine_view c.args.self.now in
    let now = machine_view c.loop-batch.self in
    wants_so circuit (batch_firings all) (repeated batch.turns (batch.node ∷ []))
    (batch_firings (drop (place + 1) all)) before now c.in-Err.stop
    (goes_so circuit (batch_firings all) (batch_firings (drop place all)) _ before now
    (batches_left all place past_end c.loop-batch-test.true) c.loop-batch.invariant.goes)
    c.in-Err.ensures.memory

pub loop-batch-preserved : goal.loop-batch-preserved
loop-batch-preserved c =
    let circuit = circuit_view c.args.circuit.now in
    let all = c.args.batches.now in
    let place = c.loop-batch.batch-index in
    let batch = get_or all place past_end in
    let before = machine_view c.args.self.now in
    let now = machine_view c.loop-batch.self in
    record {
      machine = c.fire_batch.ensures.machine;
      goes = goes_on circuit (batch_firings all) (repeated batch.turns (batch.node ∷ []))
          (batch_firings (drop (place + 1) all)) before now (machine_view c.fire_batch.new.self)
          (goes_so circuit (batch_firings all) (batch_firings (drop place all)) _ before now
          (batches_left all place past_end c.loop-batch-test.true) c.loop-batch.invariant.goes)
          c.in-Ok.ensures.gone.0 c.in-Ok.ensures.gone.1;
    }
