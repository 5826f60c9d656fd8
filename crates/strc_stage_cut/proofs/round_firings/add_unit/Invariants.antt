use Rattle.std.proofs.Common.{◌≡◌, ◌+◌, ◌*◌, ℕ, length, take}
use Rattle.strc_balance.specs.Balance.{count_at}
use Rattle.strc_sched_orders.specs.Order.{firing_count}
use Rattle.strc_stage_cut.proofs.round_firings.add_unit.Given as goal

abbrev pub invariant-loop-node : goal.invariant-loop-node
invariant-loop-node l = record {
  each : length l.counts ≡ length l.fn.counts;
  counts : (node : ℕ) → count_at l.counts node ≡ count_at l.fn.counts node
      + l.unit.turns * firing_count (take l.node-index l.node-items) node;
}
