-- Counts and schedules of a graph are its only ones, and exclude its refusals.
use Rattle.std.proofs.Common.{ℕ, List, arith}
use Rattle.std.specs.Prelude.{Bool, true, false}
use mathlib.Core.Path.{fun_ext}
use Rattle.strc_elab_graph.specs.Graphs.{Graph}
use Rattle.strc_balance.specs.Balance.{count_at}
use Rattle.strc_startup.specs.Rates.{rates_of}
use Rattle.strc_startup.specs.declared.channel_rates.ChannelRates.{ChannelRates}
use Rattle.strc_sched_orders.specs.declared.unit as units
use Rattle.strc_sched_orders.specs.Firings.{Firings, none_fired}
use Rattle.strc_sched_orders.specs.Greedy.{firings_of, IsGreedyOrder}
use Rattle.strc_sched_orders.specs.Laws.{GreedyIsAnOrder, OneGreedyOrder}
use Rattle.strc_sched_orders.specs.Order.{HasOrder}
use Rattle.strc_sched_orders.specs.Schedules.{ScheduleParts}
use Rattle.strc_sched_orders.proofs.Limiting.{within_limit}
use Rattle.strc_stage_plan.specs.Plans.{HasSchedule, IsDeadlocked}
use Rattle.strc_stage_plan.specs.Laws.{OneStartup, ScheduledOrRefused}

pub one_startup : OneStartup
one_startup graph one other h g = fun_ext (λ node.
    let less = h.least.least other g.least.primed node in
    let more = g.least.least one h.least.primed node in omega (arith, less, more))

module _ (is_order : GreedyIsAnOrder) (one_order : OneGreedyOrder) where
  some_order : (channels : List ChannelRates) (counts firings : Firings)
      (order : List units.Unit.Unit) → IsGreedyOrder channels counts firings order
      → HasOrder channels counts firings
  some_order channels counts firings order is =
      (firings_of order, is_order channels counts firings order is, is.all)

  not_deadlocked : (graph : Graph) (startup round : List ℕ) (schedule : ScheduleParts)
      → HasSchedule graph startup round schedule → (in_startup : Bool)
      → ¬ IsDeadlocked graph startup round in_startup
  not_deadlocked graph startup round schedule has true none =
      none (some_order (rates_of graph) none_fired (count_at startup) schedule.startup
      has.is.startup_order)
  not_deadlocked graph startup round schedule has false none =
      none.1 (some_order (rates_of graph) (count_at startup) (count_at round) schedule.round
      has.is.round_order)

  pub scheduled_or_refused : ScheduledOrRefused
  scheduled_or_refused graph startup round schedule has = (
    not_deadlocked graph startup round schedule has,
    within_limit (rates_of graph) (count_at startup) (count_at round) schedule has.is has.within,
  )
