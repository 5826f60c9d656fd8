use Rattle.std.proofs.Common.{◌≡◌, ◌+◌, ℕ, length, take}
use Rattle.strc_balance.specs.Balance.{count_at}
use Rattle.strc_sched_orders.specs.Greedy.{firings_of}
use Rattle.strc_sched_orders.specs.Order.{firing_count}
use Rattle.strc_stage_cut.proofs.round_firings.add_units.Given as goal

abbrev pub invariant-loop-unit : goal.invariant-loop-unit
invariant-loop-unit l = record {
  each : length l.counts ≡ length l.fn.counts;
  counts : (node : ℕ) → count_at l.counts node ≡ count_at l.fn.counts node
      + firing_count (firings_of (take l.unit-index l.round)) node;
}
