use Rattle.std.proofs.Common.{◌≡◌, ◌<◌, ℕ, length, slice_index}
use Rattle.strc_elab_dataflow.specs.Ranges.{stage_within}
use Rattle.strc_stage_cut.specs.Bounds.{bound_in, last_of}
use Rattle.strc_batch.proofs.groups.groups_of_nodes.Given as goal

abbrev pub invariant-loop-group : goal.invariant-loop-group
invariant-loop-group l = record {
  long : length l.groups.items ≡ slice_index l.bounds l.group;
  each : (node : ℕ) → node < length l.groups.items → slice_index l.groups.items node
      ≡ stage_within (bound_in l.bounds) (last_of l.bounds) node;
}
