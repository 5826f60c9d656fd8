use Rattle.std.proofs.Common.{ap, arith, drop, length, ◌+◌, ◌<◌, ◌≤◌, Err, Ok}
use Rattle.strc_sched_rings.specs.Circuits.{circuit_view}
use Rattle.strc_sched_machine.specs.Running.{machine_view}
use Rattle.strc_sched_machine.specs.Batches.{all_firings, list_firings}
use Rattle.strc_sched_machine.proofs.BatchLists.{all_left, order_gone, order_wants}
use Rattle.strc_sched_machine.proofs.Going.{ends_so, goes_on, goes_so, none_left, stops_so}
use Rattle.strc_sched_machine.proofs.Going.{wants_so}
use Rattle.strc_sched_machine.proofs.machine.Machine.fire_order.Goals as goal

pub returns-in-Err-clause-gone : goal.returns-in-Err-clause-gone
returns-in-Err-clause-gone c =
    let circuit = circuit_view c.args.circuit.now in
    let order = c.args.order.now in
    let all = order.lists.items in
    let place = c.loop-place.place in
    let list = c.index.result.now in
    let less : place < length all =
    let test = c.loop-place-test.true in
    let many = c.len-place-end.ensures in omega (arith, test, many) in
    let is = c.index.ensures in
    let before = machine_view c.args.self.now in
    let now = machine_view c.loop-place.self in
    let after = machine_view c.fire_list.new.self in
    order_gone circuit order c.requires.order before after (Err c.in-Err.stop)
    (stops_so circuit (all_firings all) (list_firings list) (all_firings (drop (place + 1) all))
    before now after c.in-Err.stop
    (goes_so circuit (all_firings all) (all_firings (drop place all)) _ before now
    (all_left all place list less is) c.loop-place.invariant.goes)
    c.in-Err.ensures.gone)

pub returns-in-Err-clause-memory : goal.returns-in-Err-clause-memory
returns-in-Err-clause-memory c =
    let circuit = circuit_view c.args.circuit.now in
    let order = c.args.order.now in
    let all = order.lists.items in
    let place = c.loop-place.place in
    let list = c.index.result.now in
    let less : place < length all =
    let test = c.loop-place-test.true in
    let many = c.len-place-end.ensures in omega (arith, test, many) in
    let is = c.index.ensures in
    let before = machine_view c.args.self.now in
    let now = machine_view c.loop-place.self in
    order_wants circuit order c.requires.order before (Err c.in-Err.stop)
    (wants_so circuit (all_firings all) (list_firings list) (all_firings (drop (place + 1) all))
    before now c.in-Err.stop
    (goes_so circuit (all_firings all) (all_firings (drop place all)) _ before now
    (all_left all place list less is) c.loop-place.invariant.goes)
    c.in-Err.ensures.memory)

pub loop-place-preserved : goal.loop-place-preserved
loop-place-preserved c =
    let circuit = circuit_view c.args.circuit.now in
    let all = c.args.order.now.lists.items in
    let place = c.loop-place.place in
    let list = c.index.result.now in
    let less : place < length all =
    let test = c.loop-place-test.true in
    let many = c.len-place-end.ensures in omega (arith, test, many) in
    let is = c.index.ensures in
    let before = machine_view c.args.self.now in
    let now = machine_view c.loop-place.self in
    record {
      machine = c.fire_list.ensures.machine;
      goes = goes_on circuit (all_firings all) (list_firings list)
          (all_firings (drop (place + 1) all)) before now (machine_view c.fire_list.new.self)
          (goes_so circuit (all_firings all) (all_firings (drop place all)) _ before now
          (all_left all place list less is) c.loop-place.invariant.goes)
          c.in-Ok.ensures.gone.0 c.in-Ok.ensures.gone.1;
    }

pub returns-clause-gone : goal.returns-clause-gone
returns-clause-gone c =
    let circuit = circuit_view c.args.circuit.now in
    let order = c.args.order.now in
    let all = order.lists.items in
    let place = c.loop-place.place in
    let past : length all ≤ place =
    let test = c.loop-place-test.false in
    let many = c.len-place-end.ensures in omega (arith, test, many) in
    let before = machine_view c.args.self.now in
    let now = machine_view c.loop-place.self in
    order_gone circuit order c.requires.order before now (Ok tt)
    (ends_so circuit (all_firings all) (all_firings (drop place all)) before now
    (ap all_firings (none_left all place past)) c.loop-place.invariant.goes)
