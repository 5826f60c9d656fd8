use Rattle.std.proofs.Common.{◌≡◌, ◌≤◌, ◌*◌, ◌-◌, map, sum, slice_index}
use Rattle.std.specs.List.{range_with_len}
use Rattle.strc_stage_weights.specs.declared.unit_work.TheConstants.{ROUND_WORK_LIMIT}
use Rattle.strc_stage_weights.proofs.group_work.work_between.Given as goal

abbrev pub invariant-loop-node : goal.invariant-loop-node
invariant-loop-node l = record {
  sum_is : l.total ≡ sum (map (λ node. slice_index l.works node)
      (range_with_len l.fn.first (l.node - l.fn.first)));
  light : l.total ≤ (l.node - l.fn.first) * ROUND_WORK_LIMIT;
}
