-- What greedy orders are worth.
use Rattle.std.specs.Prelude.{◌≡◌, ℕ, ◌+◌, List}
use Rattle.strc_startup.specs.declared.channel_rates.ChannelRates.{ChannelRates}
use Rattle.strc_sched_orders.specs.declared.unit as units
use Rattle.strc_sched_orders.specs.Firings.{Firings}
use Rattle.strc_sched_orders.specs.Greedy.{firings_of, IsGreedy, IsGreedyOrder}
use Rattle.strc_sched_orders.specs.Order.{firing_count, after, IsOrder, HasOrder}
use Rattle.strc_sched_orders.specs.Progress.{IsStuck}

-- a greedy order is an order
abbrev pub GreedyIsAnOrder : Type 0
GreedyIsAnOrder =
    (channels : List ChannelRates) (counts firings : Firings) (order : List units.Unit.Unit)
    → IsGreedyOrder channels counts firings order
    → IsOrder channels counts (firings_of order)

-- where some order of these firings exists, greedy units after which no node can fire are all of
-- them
abbrev pub GreedyFindsAnOrder : Type 0
GreedyFindsAnOrder =
    (channels : List ChannelRates) (counts firings left : Firings) (order : List units.Unit.Unit)
    → IsGreedy channels counts firings order
    → ((node : ℕ) → firing_count (firings_of order) node + left node ≡ firings node)
    → IsStuck channels (after counts (firings_of order)) left
    → HasOrder channels counts firings
    → IsGreedyOrder channels counts firings order

-- there is one greedy order
abbrev pub OneGreedyOrder : Type 0
OneGreedyOrder =
    (channels : List ChannelRates) (counts firings : Firings) (order other : List units.Unit.Unit)
    → IsGreedyOrder channels counts firings order → IsGreedyOrder channels counts firings other
    → firings_of order ≡ firings_of other
