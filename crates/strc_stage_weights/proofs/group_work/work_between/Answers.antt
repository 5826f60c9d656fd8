use Rattle.std.proofs.Common.{arith, slice_index}
use Rattle.strc_stage_weights.proofs.Groups.{work_more}
use Rattle.strc_stage_weights.proofs.group_work.work_between.Goals as goal

pub loop-node-preserved : goal.loop-node-preserved
loop-node-preserved c = record {
  sum_is = omega (
    arith,
    work_more (λ n. slice_index c.args.works.now n) c.args.first c.loop-node.node
        (omega (arith, c.loop-node.auto.node)),
    c.loop-node.invariant.sum_is,
  );
  light = omega (
    arith,
    c.loop-node.auto.node,
    c.loop-node.invariant.light,
    c.requires.light c.loop-node.node,
  );
}
