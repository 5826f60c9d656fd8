use Rattle.std.proofs.Common.{◌≤◌, ◌-◌, length}
use Rattle.strc_balance.specs.Balance.{count_at}
use Rattle.strc_sched_orders.specs.Progress.{HasFirst}
use Rattle.strc_sched_orders.proofs.progress.found_from.Given as goal

abbrev pub invariant-loop-found : goal.invariant-loop-found
invariant-loop-found l = record {
  within : l.found ≤ length l.numbers;
  first : HasFirst l.network l.numbers (count_at l.counts) l.found;
}

abbrev pub decreases-loop-found : goal.decreases-loop-found
decreases-loop-found l = length l.numbers - l.found
