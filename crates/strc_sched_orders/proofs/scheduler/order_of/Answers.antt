use Rattle.std.proofs.Common.{refl, subst, IfSome, IfNone}
use Rattle.strc_balance.specs.Balance.{count_at}
use Rattle.strc_sched_orders.specs.declared.error.ScheduleError.TheVariants as refused
use Rattle.strc_sched_orders.specs.Greedy.{IsGreedyOrder}
use Rattle.strc_sched_orders.specs.Order.{HasOrder}
use Rattle.strc_sched_orders.specs.Schedules.{HasNoOrder}
use Rattle.strc_sched_orders.proofs.Scheduling.{passed_on}
use Rattle.strc_sched_orders.proofs.scheduler.order_of.Goals as goal

pub returns-in_err-units-clause-none : goal.returns-in_err-units-clause-none
returns-in_err-units-clause-none c =
    passed_on (HasNoOrder c.args.network.now.channels (count_at c.args.counts.now)
    (count_at c.args.firings.now) c.args.in_startup) c.from_residual.result refused.NoMemory
    c.from_residual.ensures tt

pub returns-in-None-clause-none : goal.returns-in-None-clause-none
returns-in-None-clause-none c = (
  refl,
  subst (λ o. IfNone o (¬ HasOrder c.args.network.now.channels (count_at c.args.counts.now)
      (count_at c.args.firings.now))) c.in-None.is c.in_ok-units.ensures.none,
)

pub returns-in-Some-clause-greedy : goal.returns-in-Some-clause-greedy
returns-in-Some-clause-greedy c =
    subst (λ o. IfSome o (λ units. IsGreedyOrder c.args.network.now.channels
    (count_at c.args.counts.now) (count_at c.args.firings.now) units.items)) c.in-Some.is
    c.in_ok-units.ensures.greedy
