use Rattle.std.proofs.Common.{◌≡◌, drop}
use Rattle.strc_sched_orders.specs.Progress.{IsSound, IsCompleteBut, EndsAt}
use Rattle.strc_sched_orders.proofs.progress.Progress.look_along.Given as goal

abbrev pub invariant-loop-number : goal.invariant-loop-number
invariant-loop-number l = record {
  sound : IsSound l.network l.self;
  complete : IsCompleteBut l.network l.self (EndsAt l.network (drop l.number-index l.numbers));
  counts : l.self.counts ≡ l.fn.self.counts;
  left : l.self.left ≡ l.fn.self.left;
}
