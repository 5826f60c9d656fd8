use Rattle.std.proofs.Common.{◌≡◌, ◌≤◌, ◌*◌, sum, slice_index}
use Rattle.strc_batch_cut.specs.Work.{group_weights}
use Rattle.strc_stage_weights.specs.declared.unit_work.TheConstants.{ROUND_WORK_LIMIT}
use Rattle.strc_stage_weights.proofs.group_work.group_weights.Given as goal

abbrev pub invariant-loop-group : goal.invariant-loop-group
invariant-loop-group l = record {
  weights_are : l.weights.items ≡ group_weights (λ node. slice_index l.works node)
      (λ group. slice_index l.bounds group) l.group;
  light : sum l.weights.items ≤ slice_index l.bounds l.group * ROUND_WORK_LIMIT;
}
