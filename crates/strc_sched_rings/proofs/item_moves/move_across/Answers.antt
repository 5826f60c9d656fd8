use Rattle.std.proofs.Common.{◌<◌, arith}
use Rattle.strc_sched_rings.proofs.Moves.{poured_up, poured_down}
use Rattle.strc_sched_rings.proofs.item_moves.move_across.Goals as goal

pub returns-then-source-target : goal.returns-then-source-target
returns-then-source-target c =
    poured_up c.args.rings.now c.split_at_mut-low.result.0.now c.split_at_mut-low.result.1.now
    c.args.source c.args.target c.args.count c.index-low-source.result c.index-high-0.result
    c.pour.new.source c.pour.new.target c.requires.apart c.requires.source c.requires.target
    c.if-source-target.true c.split_at_mut-low.ensures.front c.split_at_mut-low.ensures.back
    c.pour.ensures.source c.pour.ensures.target

pub returns-else-source-target : goal.returns-else-source-target
returns-else-source-target c =
    let split = c.split_at_mut-low-else-source-target in
    let pour = c.pour-else-source-target in
    let past = c.if-source-target.false in
    let apart = c.requires.apart in
    let less : c.args.target < c.args.source = omega (arith, past, apart) in
    poured_down c.args.rings.now split.result.0.now split.result.1.now
    c.args.source c.args.target c.args.count c.index-high-0-else-source-target.result
    c.index-low-target.result pour.new.source pour.new.target c.requires.apart c.requires.source
    c.requires.target less split.ensures.front split.ensures.back pour.ensures.source
    pour.ensures.target
