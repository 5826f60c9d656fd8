use Rattle.std.proofs.Common.{◌∙◌, subst}
use Rattle.std.specs.Prelude.{IfOk, IfErr}
use Rattle.strc_balance.specs.Balance.{count_at}
use Rattle.strc_sched_orders.specs.Schedules.{IsSchedule, HasNoSchedule}
use Rattle.strc_sched_orders.proofs.scheduler.schedule_of.Goals as goal

pub returns-clause-schedule : goal.returns-clause-schedule
returns-clause-schedule c =
    subst (λ l. IfOk c.scheduled.result (IsSchedule l (count_at c.args.startup.now)
    (count_at c.args.round.now)))
    (c.in_ok-network.ensures.channels ∙ c.in_ok-channels.ensures.rates)
    c.scheduled.ensures.schedule

pub returns-clause-within : goal.returns-clause-within
returns-clause-within c = c.scheduled.ensures.within

pub returns-clause-none : goal.returns-clause-none
returns-clause-none c =
    subst (λ l. IfErr c.scheduled.result (HasNoSchedule l (count_at c.args.startup.now)
    (count_at c.args.round.now)))
    (c.in_ok-network.ensures.channels ∙ c.in_ok-channels.ensures.rates)
    c.scheduled.ensures.none
