use Rattle.std.proofs.Common.{◌≡◌, ◌+◌, ◌*◌, ℕ, length, min, slice_index, take}
use Rattle.strc_sched_orders.specs.Greedy.{firings_of}
use Rattle.strc_sched_orders.specs.Order.{firing_count}
use Rattle.strc_stage_weights.specs.declared.unit_work.TheConstants.{ROUND_WORK_LIMIT}
use Rattle.strc_stage_weights.proofs.unit_work.add_units.Given as goal

abbrev pub invariant-loop-unit : goal.invariant-loop-unit
invariant-loop-unit l = record {
  each : length l.works ≡ length l.fn.works;
  works_are : (node : ℕ) → slice_index l.works node ≡ min (slice_index l.fn.works node
      + firing_count (firings_of (take l.unit-index l.round)) node
      * slice_index l.firings node) ROUND_WORK_LIMIT;
}
