use Rattle.std.proofs.Common.{◌≡◌, ◌≤◌}
use Rattle.strc_sched_orders.specs.Progress.{IsSound, IsCompleteBut}
use Rattle.strc_sched_orders.proofs.progress.Progress.look_at_all.Given as goal

abbrev pub invariant-loop-node : goal.invariant-loop-node
invariant-loop-node l = record {
  sound : IsSound l.network l.self;
  complete : IsCompleteBut l.network l.self (λ node. l.node ≤ node);
  counts : l.self.counts ≡ l.fn.self.counts;
  left : l.self.left ≡ l.fn.self.left;
}
