use Rattle.std.proofs.Common.{arith}
use Rattle.strc_sched.proofs.Counting.{unit_next, unit_within}
use Rattle.strc_sched.proofs.needed_input.firings_of.Goals as goal

pub firings_in-firings-requires : goal.firings_in-firings-requires
firings_in-firings-requires c = record {
  few = let w = unit_within c.args.units.now c.loop-unit.unit-index c.loop-unit-test.true
      c.unit-item.result c.unit-item.is c.args.node in
      omega (arith, w, c.requires.few c.args.node);
}

pub overflow_add-firings : goal.overflow_add-firings
overflow_add-firings c =
    let w = unit_within c.args.units.now c.loop-unit.unit-index c.loop-unit-test.true
    c.unit-item.result c.unit-item.is c.args.node in
    let i = c.loop-unit.invariant in
    let e = c.firings_in-firings.ensures in
    omega (arith, w, c.requires.few c.args.node, i, e)

pub loop-unit-preserved : goal.loop-unit-preserved
loop-unit-preserved c =
    let n = unit_next c.args.units.now c.loop-unit.unit-index c.loop-unit-test.true
    c.unit-item.result c.unit-item.is c.args.node in
    let i = c.loop-unit.invariant in
    let e = c.firings_in-firings.ensures in
    omega (arith, n, i, e)
