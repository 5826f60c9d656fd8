use Rattle.std.proofs.Common.{◌<◌, arith}
use Rattle.strc_sched_rings.proofs.Scattering.{given_up, given_down}
use Rattle.strc_sched_rings.proofs.scatter.give_across.Goals as goal

pub returns-then-source-target : goal.returns-then-source-target
returns-then-source-target c =
    given_up c.args.rings.now c.split_at_mut-low.result.0.now c.split_at_mut-low.result.1.now
    c.args.source c.args.target c.args.start c.args.count c.index-low-source.result
    c.index-high-0.result c.pour_part.new.target c.requires.source c.requires.target
    c.if-source-target.true c.split_at_mut-low.ensures.front c.split_at_mut-low.ensures.back
    c.pour_part.ensures

pub returns-else-source-target : goal.returns-else-source-target
returns-else-source-target c =
    let split = c.split_at_mut-low-else-source-target in
    let pour = c.pour_part-else-source-target in
    let past = c.if-source-target.false in
    let apart = c.requires.apart in
    let less : c.args.target < c.args.source = omega (arith, past, apart) in
    given_down c.args.rings.now split.result.0.now split.result.1.now c.args.source c.args.target
    c.args.start c.args.count c.index-high-0-else-source-target.result c.index-low-target.result
    pour.new.target c.requires.source c.requires.target less split.ensures.front
    split.ensures.back pour.ensures
