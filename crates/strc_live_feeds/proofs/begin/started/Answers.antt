use Rattle.std.proofs.Common.{ℤ, List, subst}
use Rattle.strc_stage_cut.specs.Startups.{HasFaulted}
use Rattle.strc_live_feeds.proofs.begin.started.Goals as goal

pub returns-in-Ok-Faulted-clause-begun : goal.returns-in-Ok-Faulted-clause-begun
returns-in-Ok-Faulted-clause-begun c first left pulled = record {
  items = c.args.window.items;
  numbers = c.args.numbers;
  pulled = pulled;
  can = c.requires.can;
  faulted = subst (λ (l : List ℤ). HasFaulted c.args.plan.now l c.in-Ok-Faulted.node
      c.in-Ok-Faulted.firing c.in-Ok-Faulted.cause) c.deref.ensures.value
      (rw c.in-Ok-Faulted.field-0-is at c.in-Ok-Faulted.ensures);
}
