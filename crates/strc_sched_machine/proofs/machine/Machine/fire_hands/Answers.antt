use Rattle.std.proofs.Common.{◌-◌, ◌+◌}
use Rattle.strc_sched_orders.specs.Order.{repeated}
use Rattle.strc_sched_rings.specs.Circuits.{circuit_view}
use Rattle.strc_sched_machine.specs.Batches.{batch_firings}
use Rattle.strc_sched_machine.specs.Running.{machine_view}
use Rattle.strc_sched_machine.proofs.Going.{goes_on, goes_so, stops_so, turns_left, wants_so}
use Rattle.strc_sched_machine.proofs.machine.Machine.fire_hands.Goals as goal

pub returns-in-Err-clause-gone : goal.returns-in-Err-clause-gone
returns-in-Err-clause-gone c =
    let circuit = circuit_view c.args.circuit.now in
    let turns = c.args.turns in
    let nodes = batch_firings c.args.batches.now in
    let turn = c.loop-turn._turn in
    let before = machine_view c.args.self.now in
    let now = machine_view c.loop-turn.self in
    stops_so circuit (repeated turns nodes) nodes (repeated (turns - (turn + 1)) nodes) before now
    (machine_view c.fire_handing.new.self) c.in-Err.stop
    (goes_so circuit (repeated turns nodes) (repeated (turns - turn) nodes) _ before now
    (turns_left turns turn nodes c.loop-turn-test.true) c.loop-turn.invariant.goes)
    c.in-Err.ensures.gone

pub returns-in-Err-clause-memory : goal.returns-in-Err-clause-memory
returns-in-Err-clause-memory c =
    let circuit = circuit_view c.args.circuit.now in
    let turns = c.args.turns in
    let nodes = batch_firings c.args.batches.now in
    let turn = c.loop-turn._turn in
    let before = machine_view c.args.self.now in
    let now = machine_view c.loop-turn.self in
    wants_so circuit (repeated turns nodes) nodes (repeated (turns - (turn + 1)) nodes) before now
    c.in-Err.stop
    (goes_so circuit (repeated turns nodes) (repeated (turns - turn) nodes) _ before now
    (turns_left turns turn nodes c.loop-turn-test.true) c.loop-turn.invariant.goes)
    c.in-Err.ensures.memory

pub loop-turn-preserved : goal.loop-turn-preserved
loop-turn-preserved c =
    let circuit = circuit_view c.args.circuit.now in
    let turns = c.args.turns in
    let nodes = batch_firings c.args.batches.now in
    let turn = c.loop-turn._turn in
    let before = machine_view c.args.self.now in
    let now = machine_view c.loop-turn.self in
    record {
      machine = c.fire_handing.ensures.machine;
      goes = goes_on circuit (repeated turns nodes) nodes (repeated (turns - (turn + 1)) nodes)
          before now (machine_view c.fire_handing.new.self)
          (goes_so circuit (repeated turns nodes) (repeated (turns - turn) nodes) _ before now
          (turns_left turns turn nodes c.loop-turn-test.true) c.loop-turn.invariant.goes)
          c.in-Ok.ensures.gone.0 c.in-Ok.ensures.gone.1;
    }
