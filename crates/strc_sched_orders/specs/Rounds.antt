-- Round after round (Lee and Messerschmitt 1987: a periodic schedule).
use Rattle.std.specs.Prelude.{◌≡◌, ◌⊎◌, ℕ, ◌+◌, ◌*◌, ◌<◌, ◌≤◌, List, All, slice_get, slice_index}
use Rattle.std.specs.Prelude.{Some, map, length}
use Rattle.strc_elab_graph.specs.Graphs.{Graph}
use Rattle.strc_balance.specs.Balance.{count_at}
use Rattle.strc_balance.specs.Rates.{IsRated, equations_of}
use Rattle.strc_startup.specs.Rates.{rates_of, first_counts}
use Rattle.strc_startup.specs.Startup.{IsPrimed}
use Rattle.strc_startup.specs.declared.channel_rates.ChannelRates.{ChannelRates}
use Rattle.strc_sched_orders.specs.Buffers.{peak_fill, buffer_size}
use Rattle.strc_sched_orders.specs.Firings.{Firings, none_fired}
use Rattle.strc_sched_orders.specs.Greedy.{firings_of}
use Rattle.strc_sched_orders.specs.Order.{IsOrder}
use Rattle.strc_sched_orders.specs.Peaks.{AreRaised}
use Rattle.strc_sched_orders.specs.Schedules.{ScheduleParts, IsSchedule, IsRunnable}
use Rattle.strc_sched_orders.specs.declared.unit as units

-- after so many rounds
abbrev pub rounds_on : Firings → (rounds : ℕ) → (round : Firings) → Firings
rounds_on counts rounds round node = counts node + rounds * round node

-- in a round as many items are pushed on a channel as are popped
abbrev pub RoundBalances : (round : Firings) → ChannelRates → Type 0
RoundBalances round rates = rates.push * round rates.source ≡ rates.pop * round rates.target

-- the first firings of a channel's ends are done, or are like all others
pub record IsPastPrework (counts : Firings) (rates : ChannelRates) : Type 0 where
  pub source : (0 < counts rates.source) ⊎ (rates.first_push ≡ rates.push)
  pub target : (0 < counts rates.target)
      ⊎ ((rates.first_pop ≡ rates.pop) × (rates.first_window ≡ rates.window))

-- an order of a round is one in each later round
abbrev pub OrderRepeats : Type 0
OrderRepeats =
    (channels : List ChannelRates) (counts round : Firings) (rounds : ℕ) (order : List ℕ)
    → All (IsPastPrework counts) channels → All (RoundBalances round) channels
    → IsOrder channels counts order
    → IsOrder channels (rounds_on counts rounds round) order

-- and leaves as many items on each channel
abbrev pub FillsRepeat : Type 0
FillsRepeat =
    (rates : ChannelRates) (counts round : Firings) (rounds : ℕ) (order : List ℕ)
    → IsPastPrework counts rates → RoundBalances round rates
    → peak_fill rates (rounds_on counts rounds round) order ≡ peak_fill rates counts order

-- greedy schedules are runnable
abbrev pub SchedulesAreRunnable : Type 0
SchedulesAreRunnable =
    (channels : List ChannelRates) (startup round : Firings) (schedule : ScheduleParts)
    → IsSchedule channels startup round schedule → IsRunnable channels startup round schedule

-- the greatest numbers of items of start-up, raised to those of a round, are the sizes of buffers
abbrev pub RaisedAreSizes : Type 0
RaisedAreSizes =
    (channels : List ChannelRates) (startup : Firings)
    (startup_units round_units : List units.Unit.Unit) (greatest sizes : List ℕ)
    → greatest ≡ map (λ rates. peak_fill rates none_fired (firings_of startup_units)) channels
    → length sizes ≡ length channels
    → AreRaised channels startup (firings_of round_units) greatest sizes
    → sizes ≡ map (buffer_size startup startup_units round_units) channels

-- so no buffer ever holds more than its size
abbrev pub NoBufferOverflows : Type 0
NoBufferOverflows =
    (channels : List ChannelRates) (startup round : Firings) (schedule : ScheduleParts)
    → IsRunnable channels startup round schedule
    → All (IsPastPrework startup) channels → All (RoundBalances round) channels
    → (rounds number : ℕ) (rates : ChannelRates) → slice_get channels number ≡ Some rates
    → peak_fill rates (rounds_on startup rounds round) (firings_of schedule.round)
    ≤ slice_index schedule.sizes number

-- counts that prime a graph leave no first firing that is unlike the others
abbrev pub PrimedCountsArePastPrework : Type 0
PrimedCountsArePastPrework =
    (graph : Graph) (counts : List ℕ) → All IsRated (equations_of graph)
    → IsPrimed (first_counts graph) (rates_of graph) counts
    → All (IsPastPrework (count_at counts)) (rates_of graph)
