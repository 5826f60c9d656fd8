use Rattle.std.proofs.Common.{◌<◌, ◌≤◌, length, arith}
use Rattle.strc_sched_rings.proofs.Fronts.{rotates}
use Rattle.strc_sched_rings.proofs.item_moves.rotate.Goals as goal

pub loop-turn-preserved : goal.loop-turn-preserved
loop-turn-preserved c =
    let first = c.args.ring.now in
    let turn = c.loop-turn._turn in
    let long = c.len.ensures.len in
    let less : turn < length first.items = let test = c.loop-turn-test.true in
    let end = c.min-turn-end.ensures in omega arith in
    let held : length first.items ≤ first.capacity = let within = c.len.ensures.within.0 in
    omega arith in
    rotates first c.loop-turn.ring c.rotate_one.new.ring turn less held c.loop-turn.invariant
    c.rotate_one.ensures
