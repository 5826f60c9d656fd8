use Rattle.std.proofs.Common.{◌∙◌, slice_index}
use Rattle.strc_stage_weights.proofs.Counted.{unit_work_next}
use Rattle.strc_stage_weights.proofs.unit_work.add_units.Goals as goal

pub loop-unit-preserved : goal.loop-unit-preserved
loop-unit-preserved c = record {
  each = c.add_unit.ensures.each ∙ c.loop-unit.invariant.each;
  works_are = λ other. unit_work_next c.args.round.now c.loop-unit.unit-index
      c.unit-item.result other (slice_index c.args.firings.now other)
      (slice_index c.args.works.now other) (slice_index c.loop-unit.works other)
      (slice_index c.add_unit.new.works other) c.loop-unit-test.true c.unit-item.is
      (c.loop-unit.invariant.works_are other) (c.add_unit.ensures.works other);
}
