use Rattle.std.proofs.Common.{arith, rules}
use Rattle.strc_cli_pictures.proofs.PartCounts.{count_all, count_ended, count_held}
use Rattle.strc_cli_pictures.proofs.boxes.count_within.Goals as goal

pub loop-part-init : goal.loop-part-init
loop-part-init c = record {
  few = omega arith;
  held = omega arith;
  counts = omega (arith, count_held 0 c.args.parts.now);
}

pub returns-in-Close : goal.returns-in-Close
returns-in-Close c =
    count_ended c.loop-part.count c.loop-part.level c.loop-part.part-index _ c.args.parts.now
    c.part-item.result c.loop-part-test.true c.part-item.is c.in-Close.is (search rules)
    c.loop-part.invariant.held c.loop-part.invariant.counts

pub returns : goal.returns
returns c =
    count_all c.loop-part.count c.loop-part.level c.loop-part.part-index _ c.args.parts.now
    c.loop-part-test.false c.loop-part.invariant.held c.loop-part.invariant.counts
