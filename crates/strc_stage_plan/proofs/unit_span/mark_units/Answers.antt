use Rattle.std.proofs.Common.{subst}
use Rattle.std.specs.Prelude.{drop, ◌+◌}
use Rattle.strc_fuse.specs.Units.{round_unit, round_units}
use Rattle.strc_fuse.proofs.Marks.{next_more}
use Rattle.strc_stage_plan.proofs.Between.{AreLeft, next_left}
use Rattle.strc_stage_plan.proofs.unit_span.mark_units.Goals as goal

pub loop-unit-preserved : goal.loop-unit-preserved
loop-unit-preserved c =
    let units = c.args.round.now in
    let place = c.loop-unit.unit-index in
    let unit = c.unit-item.result in
    let left = next_more units place unit c.loop-unit-test.true c.unit-item.is in
    next_left c.args.marks.now c.loop-unit.marks c.mark_unit.new.marks (round_units units)
    (drop (place + 1) (round_units units)) (round_unit unit)
    (subst (AreLeft c.args.marks.now c.loop-unit.marks (round_units units)) left
    c.loop-unit.invariant)
    c.mark_unit.ensures.each c.mark_unit.ensures.marks
