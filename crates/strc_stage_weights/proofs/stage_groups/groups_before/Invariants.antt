use Rattle.std.proofs.Common.{◌≡◌, ◌+◌, drop, sum}
use Rattle.strc_batch_cut.specs.Weighed.{groups_before}
use Rattle.strc_stage_weights.proofs.stage_groups.groups_before.Given as goal

abbrev pub invariant-loop-group : goal.invariant-loop-group
invariant-loop-group l = record {
  left : groups_before l.weights 0 l.fn.twice_share l.fn.stages
      ≡ l.group + groups_before (drop l.group l.weights) l.passed l.fn.twice_share l.fn.stages;
  rest : l.passed + sum (drop l.group l.weights) ≡ sum l.weights;
}
