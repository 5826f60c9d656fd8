-- Schedules: greedy orders, and the buffers that they need.
use Rattle.std.specs.Prelude.{◌≡◌, ℕ, ◌<◌, ◌≤◌, Bool, true, false, List, map, length, All}
use Rattle.std.specs.Prelude.{slice_get, Some}
use Rattle.strc_balance.specs.Balance.{count_at}
use Rattle.strc_startup.specs.declared.channel_rates.ChannelRates.{ChannelRates}
use Rattle.strc_sched_orders.specs.declared.error.ScheduleError.{ScheduleError}
use Rattle.strc_sched_orders.specs.declared.error.ScheduleError.TheVariants.{Deadlock, BufferLimit}
use Rattle.strc_sched_orders.specs.declared.error.ScheduleError.TheVariants.{NoMemory}
use Rattle.strc_sched_orders.specs.declared.unit as units
use Rattle.strc_sched_orders.specs.Firings.{Firings, none_fired, fill}
use Rattle.strc_sched_orders.specs.Greedy.{IsGreedyOrder, firings_of}
use Rattle.strc_sched_orders.specs.Buffers.{peak_fill, buffer_size, size_limit}
use Rattle.strc_sched_orders.specs.Network.{NetworkView, size_of}
use Rattle.strc_sched_orders.specs.Order.{firing_count, after, IsOrder, HasOrder}
use Rattle.strc_sched_orders.specs.Peaks.{IsFirstPast}

-- the orders of start-up and of a round, for each channel the greatest and the last numbers of
-- items of start-up, and the size of its buffer
pub record ScheduleParts : Type 0 where
  pub startup : List units.Unit.Unit
  pub round : List units.Unit.Unit
  pub greatest : List ℕ
  pub last : List ℕ
  pub sizes : List ℕ

-- the orders are greedy, and the numbers of items are those of the orders
pub record IsSchedule (channels : List ChannelRates) (startup round : Firings)
    (schedule : ScheduleParts) : Type 0 where
  pub startup_order : IsGreedyOrder channels none_fired startup schedule.startup
  pub round_order : IsGreedyOrder channels startup round schedule.round
  pub greatest : schedule.greatest
      ≡ map (λ rates. peak_fill rates none_fired (firings_of schedule.startup)) channels
  pub last : schedule.last ≡ map (λ rates. fill rates startup) channels
  pub sizes : schedule.sizes
      ≡ map (buffer_size startup schedule.startup schedule.round) channels

-- an order of so many firings of each node, from these counts
pub record IsOrderOf (channels : List ChannelRates) (counts firings : Firings)
    (units : List units.Unit.Unit) : Type 0 where
  pub order : IsOrder channels counts (firings_of units)
  pub all : (node : ℕ) → firing_count (firings_of units) node ≡ firings node

-- the orders are some of these firings, greedy or not, and the numbers of items are those of the
-- orders
pub record IsRunnable (channels : List ChannelRates) (startup round : Firings)
    (schedule : ScheduleParts) : Type 0 where
  pub startup_order : IsOrderOf channels none_fired startup schedule.startup
  pub round_order : IsOrderOf channels startup round schedule.round
  pub greatest : schedule.greatest
      ≡ map (λ rates. peak_fill rates none_fired (firings_of schedule.startup)) channels
  pub last : schedule.last ≡ map (λ rates. fill rates startup) channels
  pub sizes : schedule.sizes
      ≡ map (buffer_size startup schedule.startup schedule.round) channels

-- a buffer of greedy orders would be larger than the limit, and none of a lower channel
pub record PassesLimit (channels : List ChannelRates) (startup round : Firings) (channel : ℕ)
    : Type 0 where
  pub startup_units : List units.Unit.Unit
  pub round_units : List units.Unit.Unit
  pub startup_order : IsGreedyOrder channels none_fired startup startup_units
  pub round_order : IsGreedyOrder channels startup round round_units
  pub there : channel < length channels
  pub passes : (rates : ChannelRates) → slice_get channels channel ≡ Some rates
      → size_limit < buffer_size startup startup_units round_units rates
  pub lowest : (lower : ℕ) (rates : ChannelRates) → lower < channel
      → slice_get channels lower ≡ Some rates
      → buffer_size startup startup_units round_units rates ≤ size_limit

-- why there is no greedy order: no order exists, or memory ran out
abbrev pub HasNoOrder : List ChannelRates → (counts firings : Firings) → (in_startup : Bool)
    → ScheduleError → Type 0
HasNoOrder channels counts firings in_startup (Deadlock startup) =
    (startup ≡ in_startup) × (¬ HasOrder channels counts firings)
HasNoOrder channels counts firings in_startup (BufferLimit channel) = ⊥
HasNoOrder channels counts firings in_startup NoMemory = Unit {0}

-- how often nodes have fired after start-up, and the greatest numbers of items until then
pub record IsAfterStartup (network : NetworkView) (startup : List units.Unit.Unit)
    (counts peaks : List ℕ) : Type 0 where
  pub counted : count_at counts ≡ after none_fired (firings_of startup)
  pub nodes : length counts ≡ size_of network
  pub greatest : peaks
      ≡ map (λ rates. peak_fill rates none_fired (firings_of startup)) network.channels

-- the greatest and the last numbers of items of start-up, and the sizes of all buffers
pub record AreBuffers (channels : List ChannelRates) (startup round : List units.Unit.Unit)
    (peaks fills limits : List ℕ) : Type 0 where
  pub greatest : peaks ≡ map (λ rates. peak_fill rates none_fired (firings_of startup)) channels
  pub last : fills ≡ map (λ rates. fill rates (after none_fired (firings_of startup))) channels
  pub sizes : limits
      ≡ map (buffer_size (after none_fired (firings_of startup)) startup round) channels

-- why two orders have no buffers: one would pass the limit, or memory ran out
abbrev pub HasNoBuffers : List ChannelRates → (startup round : List units.Unit.Unit)
    → ScheduleError → Type 0
HasNoBuffers channels startup round (Deadlock in_startup) = ⊥
HasNoBuffers channels startup round (BufferLimit channel) = IsFirstPast
    (map (buffer_size (after none_fired (firings_of startup)) startup round) channels) channel
HasNoBuffers channels startup round NoMemory = Unit {0}

-- a schedule has these orders and their buffers, of which each is within the limit
pub record IsFitted (channels : List ChannelRates) (first later : List units.Unit.Unit)
    (schedule : ScheduleParts) : Type 0 where
  pub startup : schedule.startup ≡ first
  pub round : schedule.round ≡ later
  pub buffers : AreBuffers channels first later schedule.greatest schedule.last schedule.sizes
  pub within : All (λ size. size ≤ size_limit) schedule.sizes

-- why there is no schedule: an order is missing, a buffer would pass the limit, or memory ran out
abbrev pub HasNoSchedule : List ChannelRates → (startup round : Firings) → ScheduleError → Type 0
HasNoSchedule channels startup round (Deadlock true) = ¬ HasOrder channels none_fired startup
HasNoSchedule channels startup round (Deadlock false) =
    (¬ HasOrder channels startup round) × HasOrder channels none_fired startup
HasNoSchedule channels startup round (BufferLimit channel) =
    PassesLimit channels startup round channel
HasNoSchedule channels startup round NoMemory = Unit {0}
