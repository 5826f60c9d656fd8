use Rattle.std.proofs.Common.{◌≡◌, ℕ, ◌<◌}
use Rattle.strc_balance.specs.Balance.{count_at}
use Rattle.strc_sched_orders.proofs.progress.Progress.is_done.Given as goal

abbrev pub invariant-loop-left : goal.invariant-loop-left
invariant-loop-left l = (node : ℕ) → node < l.left-index → count_at l.fn.self.left node ≡ 0
