use Rattle.std.proofs.Common.{◌+◌, ◌<◌, length, arith}
use Rattle.strc_sched_rings.proofs.Scattering.{repeats}
use Rattle.strc_sched_rings.proofs.scatter.repeat_part.Goals as goal

pub loop-turn-preserved : goal.loop-turn-preserved
loop-turn-preserved c =
    let first = c.args.ring.now in
    let start = c.args.start in
    let turn = c.loop-turn.turn in
    let less : start + turn < length first.items =
    let long = c.len.ensures.len in let left = c.saturating_sub.ensures in
    let end = c.min-turn-end.ensures in let test = c.loop-turn-test.true in omega arith in
    repeats first c.loop-turn.ring c.repeat_item.new.ring start turn less c.loop-turn.invariant
    c.repeat_item.ensures
