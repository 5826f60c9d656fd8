use Rattle.std.proofs.Common.{◌≡◌, ◌≤◌, ◌+◌, length, map, slice_index}
use Rattle.std.specs.List.{range_with_len}
use Rattle.strc_batch_cut.specs.Weighed.{least_group, weighed_group}
use Rattle.strc_batch_cut.specs.Picks.{picked}
use Rattle.strc_stage_weights.proofs.stage_groups.bounds_by_weight.Given as goal

abbrev pub invariant-loop-stage : goal.invariant-loop-stage
invariant-loop-stage l = record {
  bounds_are : l.bounds.items ≡ map (picked (slice_index l.starts)
      (weighed_group l.weights (length l.weights) l.stages)) (range_with_len 0 l.stage);
  least_is : l.least ≡ least_group l.weights l.stages l.stage;
  within : l.least ≤ length l.weights + l.stage;
}
