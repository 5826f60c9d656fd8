use Rattle.std.proofs.Common.{subst}
use Rattle.std.specs.Prelude.{IfOk, IfErr}
use Rattle.strc_balance.specs.Balance.{count_at}
use Rattle.strc_elab_graph.specs.NodeView.{graph_view}
use Rattle.strc_startup.specs.Rates.{rates_of}
use Rattle.strc_sched_orders.specs.Schedules.{IsSchedule, HasNoSchedule}
use Rattle.strc_sched_orders.proofs.Scheduling.{all_sized, why_startup, why_round, why_before}
use Rattle.strc_sched_orders.proofs.Scheduling.{why_limit}
use Rattle.strc_sched_orders.proofs.scheduler.schedule.Goals as goal

pub returns-clause-schedule : goal.returns-clause-schedule
returns-clause-schedule c =
    let rates = rates_of (graph_view c.args.graph.now) in
    subst (λ k. IfOk c.schedule_of.result (IsSchedule rates (count_at k)
    (count_at c.args.round.now))) c.as_slice.ensures.counts
    (subst (λ k. IfOk c.schedule_of.result (IsSchedule rates
    (count_at c.as_slice.result.now) (count_at k))) c.as_slice-2.ensures.counts
    c.schedule_of.ensures.schedule)

pub returns-clause-within : goal.returns-clause-within
returns-clause-within c = c.schedule_of.ensures.within

pub returns-clause-channels : goal.returns-clause-channels
returns-clause-channels c =
    all_sized c.args.graph.now (count_at c.as_slice.result.now) (count_at c.as_slice-2.result.now)
    c.schedule_of.result c.schedule_of.ensures.schedule

pub returns-clause-startup : goal.returns-clause-startup
returns-clause-startup c is =
    let rates = rates_of (graph_view c.args.graph.now) in
    let none = subst (λ k. IfErr c.schedule_of.result (HasNoSchedule rates (count_at k)
    (count_at c.args.round.now))) c.as_slice.ensures.counts
    (subst (λ k. IfErr c.schedule_of.result (HasNoSchedule rates
    (count_at c.as_slice.result.now) (count_at k))) c.as_slice-2.ensures.counts
    c.schedule_of.ensures.none) in
    why_startup rates (count_at c.args.startup.now) (count_at c.args.round.now) c.schedule_of.result
    none is

pub returns-clause-round : goal.returns-clause-round
returns-clause-round c is =
    let rates = rates_of (graph_view c.args.graph.now) in
    let none = subst (λ k. IfErr c.schedule_of.result (HasNoSchedule rates (count_at k)
    (count_at c.args.round.now))) c.as_slice.ensures.counts
    (subst (λ k. IfErr c.schedule_of.result (HasNoSchedule rates
    (count_at c.as_slice.result.now) (count_at k))) c.as_slice-2.ensures.counts
    c.schedule_of.ensures.none) in
    why_round rates (count_at c.args.startup.now) (count_at c.args.round.now) c.schedule_of.result
    none is

pub returns-clause-before : goal.returns-clause-before
returns-clause-before c is =
    let rates = rates_of (graph_view c.args.graph.now) in
    let none = subst (λ k. IfErr c.schedule_of.result (HasNoSchedule rates (count_at k)
    (count_at c.args.round.now))) c.as_slice.ensures.counts
    (subst (λ k. IfErr c.schedule_of.result (HasNoSchedule rates
    (count_at c.as_slice.result.now) (count_at k))) c.as_slice-2.ensures.counts
    c.schedule_of.ensures.none) in
    why_before rates (count_at c.args.startup.now) (count_at c.args.round.now) c.schedule_of.result
    none is

pub returns-clause-limit : goal.returns-clause-limit
returns-clause-limit c channel is =
    let rates = rates_of (graph_view c.args.graph.now) in
    let none = subst (λ k. IfErr c.schedule_of.result (HasNoSchedule rates (count_at k)
    (count_at c.args.round.now))) c.as_slice.ensures.counts
    (subst (λ k. IfErr c.schedule_of.result (HasNoSchedule rates
    (count_at c.as_slice.result.now) (count_at k))) c.as_slice-2.ensures.counts
    c.schedule_of.ensures.none) in
    why_limit rates (count_at c.args.startup.now) (count_at c.args.round.now) c.schedule_of.result
    none channel is
