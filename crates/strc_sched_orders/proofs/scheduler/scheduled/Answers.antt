use Rattle.std.proofs.Common.{arith}
use Rattle.strc_balance.specs.Balance.{count_at}
use Rattle.strc_sched_orders.specs.Firings.{none_fired}
use Rattle.strc_sched_orders.proofs.Scheduling.{order_nodes, schedule_if_ok, schedule_if_err}
use Rattle.strc_sched_orders.proofs.Scheduling.{within_if_ok}
use Rattle.strc_sched_orders.proofs.Scheduling.{no_startup, no_round, passed_on}
use Rattle.strc_sched_orders.specs.Schedules.{HasNoSchedule}
use Rattle.strc_sched_orders.proofs.scheduler.scheduled.Goals as goal

pub order_of-requires-clause-few : goal.order_of-requires-clause-few
order_of-requires-clause-few c node = omega (arith, c.requires.startup_within node)

pub order_of-requires-2-clause-few : goal.order_of-requires-2-clause-few
order_of-requires-2-clause-few c node =
    omega (arith, c.requires.startup_within node, c.requires.round_within node)

pub fitted-requires-clause-startup : goal.fitted-requires-clause-startup
fitted-requires-clause-startup c =
    order_nodes c.args.network.now none_fired c.args.startup.now c.in_ok-first.first.items
    c.requires.startup c.in_ok-first.ensures.greedy

pub fitted-requires-clause-round : goal.fitted-requires-clause-round
fitted-requires-clause-round c =
    order_nodes c.args.network.now (count_at c.args.startup.now) c.args.round.now
    c.in_ok-later.later.items c.requires.round c.in_ok-later.ensures.greedy

pub fitted-requires-clause-few : goal.fitted-requires-clause-few
fitted-requires-clause-few c node =
    omega (
      arith,
      c.in_ok-first.ensures.greedy.all node,
      c.in_ok-later.ensures.greedy.all node,
      c.requires.startup_within node,
      c.requires.round_within node,
    )

pub returns-in_err-first-clause-none : goal.returns-in_err-first-clause-none
returns-in_err-first-clause-none c =
    let channels = c.args.network.now.channels in
    let startup = count_at c.args.startup.now in
    let round = count_at c.args.round.now in
    passed_on (HasNoSchedule channels startup round) c.from_residual.result
    c.in_err-first.field-0.0 c.from_residual.ensures
    (no_startup channels startup round c.in_err-first.field-0.0 c.in_err-first.ensures.none)

pub returns-in_err-later-clause-none : goal.returns-in_err-later-clause-none
returns-in_err-later-clause-none c =
    let channels = c.args.network.now.channels in
    let startup = count_at c.args.startup.now in
    let round = count_at c.args.round.now in
    passed_on (HasNoSchedule channels startup round) c.from_residual-in_err-later.result
    c.in_err-later.field-0.0 c.from_residual-in_err-later.ensures
    (no_round channels startup round c.in_ok-first.first.items c.in_err-later.field-0.0
    c.in_ok-first.ensures.greedy c.in_err-later.ensures.none)

pub returns-clause-schedule : goal.returns-clause-schedule
returns-clause-schedule c =
    schedule_if_ok c.args.network.now.channels (count_at c.args.startup.now)
    (count_at c.args.round.now) c.in_ok-first.first.items c.in_ok-later.later.items
    c.in_ok-first.ensures.greedy c.in_ok-later.ensures.greedy c.fitted.result
    c.fitted.ensures.fitted

pub returns-clause-within : goal.returns-clause-within
returns-clause-within c =
    within_if_ok c.args.network.now.channels c.in_ok-first.first.items c.in_ok-later.later.items
    c.fitted.result c.fitted.ensures.fitted

pub returns-clause-none : goal.returns-clause-none
returns-clause-none c =
    schedule_if_err c.args.network.now.channels (count_at c.args.startup.now)
    (count_at c.args.round.now) c.in_ok-first.first.items c.in_ok-later.later.items
    c.in_ok-first.ensures.greedy c.in_ok-later.ensures.greedy c.fitted.result
    c.fitted.ensures.none
