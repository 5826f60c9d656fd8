use Rattle.std.proofs.Common.{◌≡◌, ◌+◌, ◌*◌, ℕ, length, min, slice_index, take}
use Rattle.strc_sched_orders.specs.Order.{firing_count}
use Rattle.strc_stage_weights.specs.declared.unit_work.TheConstants.{ROUND_WORK_LIMIT}
use Rattle.strc_stage_weights.proofs.unit_work.add_unit.Given as goal

abbrev pub invariant-loop-node : goal.invariant-loop-node
invariant-loop-node l = record {
  each : length l.works ≡ length l.fn.works;
  works_are : (node : ℕ) → slice_index l.works node ≡ min (slice_index l.fn.works node
      + l.unit.turns * firing_count (take l.node-index l.node-items) node
      * slice_index l.firings node) ROUND_WORK_LIMIT;
}
