use Rattle.std.proofs.Common.{◌∙◌, slice_index}
use Rattle.strc_stage_weights.proofs.Counted.{node_work_next}
use Rattle.strc_stage_weights.proofs.unit_work.add_unit.Goals as goal

pub loop-node-preserved : goal.loop-node-preserved
loop-node-preserved c = record {
  each = c.add_turns.ensures.each ∙ c.loop-node.invariant.each;
  works_are = λ other. node_work_next c.args.unit.now.turns c.deref-node-items.result.now
      c.loop-node.node-index other (slice_index c.args.firings.now other)
      (slice_index c.args.works.now other) (slice_index c.loop-node.works other)
      (slice_index c.add_turns.new.works other) c.loop-node-test.true
      (c.loop-node.invariant.works_are other) (c.add_turns.ensures.works other);
}
