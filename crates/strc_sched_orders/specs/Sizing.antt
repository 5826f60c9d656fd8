-- Orders that go on from counts at which first firings are done or like all others (Lee and
-- Messerschmitt 1987: a periodic schedule), and the numbers of items while they fire.
use Rattle.std.specs.Prelude.{◌≡◌, ℕ, ◌≤◌, List, [], ◌∷◌, All, map, length}
use Rattle.strc_elab_graph.specs.Graphs.{Graph}
use Rattle.strc_startup.specs.Startup.{popped, supply}
use Rattle.strc_startup.specs.declared.channel_rates.ChannelRates.{ChannelRates}
use Rattle.strc_sched_orders.specs.declared.error.ScheduleError.{ScheduleError}
use Rattle.strc_sched_orders.specs.declared.error.ScheduleError.TheVariants.{Deadlock, BufferLimit}
use Rattle.strc_sched_orders.specs.declared.error.ScheduleError.TheVariants.{NoMemory}
use Rattle.strc_sched_orders.specs.Firings.{Firings, none_fired, fill}
use Rattle.strc_sched_orders.specs.Order.{IsOrder}
use Rattle.strc_sched_orders.specs.Peaks.{AreRaised, IsFirstPast}
use Rattle.strc_sched_orders.specs.RoundRates.{round_rates_of}
use Rattle.strc_sched_orders.specs.Rounds.{IsPastPrework}

-- the rates of a channel that has so many items, where all firings are by work
abbrev pub rates_on : ChannelRates → (items : ℕ) → ChannelRates
rates_on rates items = record {
  source = rates.source;
  enqueued = items;
  first_push = rates.push;
  push = rates.push;
  target = rates.target;
  prework_window = 0;
  first_window = rates.window;
  first_pop = rates.pop;
  pop = rates.pop;
  window = rates.window;
}

-- those of all channels
abbrev pub all_rates_on : List ChannelRates → (fills : List ℕ) → List ChannelRates
all_rates_on (rates ∷ channels) (items ∷ fills) = rates_on rates items ∷ all_rates_on channels fills
all_rates_on channels fills = []

-- those of a graph's channels in one round
abbrev pub round_rates_on : Graph → (fills : List ℕ) → List ChannelRates
round_rates_on graph fills = all_rates_on (round_rates_of graph) fills

-- no more items were popped from a channel than have come
abbrev pub IsCovered : Firings → ChannelRates → Type 0
IsCovered counts rates = popped rates (counts rates.target) ≤ supply rates (counts rates.source)

-- at these counts the channels have so many items, and first firings are done or like all others
pub record HasFills (channels : List ChannelRates) (counts : Firings) (fills : List ℕ) : Type 0
  where
    pub past_prework : All (IsPastPrework counts) channels
    pub covered : All (IsCovered counts) channels
    pub items : fills ≡ map (λ rates. fill rates counts) channels

-- the greatest number of items on a channel passes the limit while an order fires, and of no lower
-- channel
pub record PassesOn (channels : List ChannelRates) (counts : Firings) (order before : List ℕ)
    (channel : ℕ) : Type 0 where
  pub sizes : List ℕ
  pub each : length sizes ≡ length channels
  pub raised : AreRaised channels counts order before sizes
  pub past : IsFirstPast sizes channel

-- why there are no sizes: a channel passes the limit, or memory ran out
abbrev pub HasNoSizes : List ChannelRates → Firings → (order before : List ℕ) → ScheduleError
    → Type 0
HasNoSizes channels counts order before (Deadlock in_startup) = ⊥
HasNoSizes channels counts order before (BufferLimit channel) =
    PassesOn channels counts order before channel
HasNoSizes channels counts order before NoMemory = Unit {0}

-- where the channels have the items of some counts, an order from these counts is one from these
-- items, and the sizes are those from these counts
abbrev pub OrdersGoOn : Type 0
OrdersGoOn =
    (channels : List ChannelRates) (counts : Firings) (fills order : List ℕ)
    → HasFills channels counts fills → IsOrder channels counts order
    → IsOrder (all_rates_on channels fills) none_fired order

abbrev pub SizesGoOn : Type 0
SizesGoOn =
    (channels : List ChannelRates) (counts : Firings) (fills order before sizes : List ℕ)
    → HasFills channels counts fills
    → AreRaised (all_rates_on channels fills) none_fired order before sizes
    → AreRaised channels counts order before sizes

abbrev pub LimitsGoOn : Type 0
LimitsGoOn =
    (channels : List ChannelRates) (counts : Firings) (fills order before : List ℕ) (channel : ℕ)
    → HasFills channels counts fills
    → PassesOn (all_rates_on channels fills) none_fired order before channel
    → PassesOn channels counts order before channel
