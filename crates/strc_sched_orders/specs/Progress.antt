-- How far an order has come: how often each node has fired, how often it is yet to fire, which of
-- its channels are known to have its window, and which nodes are known to be ready.
use Rattle.std.specs.Prelude.{◌≡◌, ◌⊎◌, ℕ, true, ◌+◌, ◌*◌, ◌<◌, ◌≤◌, List, length}
use Rattle.std.specs.Prelude.{slice_get, Some, Contains, false, replicate}
use Rattle.strc_balance.specs.Balance.{count_at, count_limit}
use Rattle.strc_balance.specs.NumberSets.{has_number}
use Rattle.strc_startup.specs.Grouping.{places_at}
use Rattle.strc_startup.specs.declared.channel_rates.ChannelRates.{ChannelRates}
use Rattle.strc_sched_orders.specs.Firings.{Firings, fired, HasWindow, FindsWindows}
use Rattle.strc_sched_orders.specs.declared.unit as units
use Rattle.strc_sched_orders.specs.Greedy.{firings_of, less_turns, IsNext, IsGreedy}
use Rattle.strc_sched_orders.specs.Network.{NetworkView, size_of}
use Rattle.strc_sched_orders.specs.Order.{firing_count, after}

-- how often a node fires in start-up and one round at most
abbrev pub count_bound : ℕ
count_bound = 2 * count_limit

abbrev pub AreCounts : List ℕ → Type 0
AreCounts counts = (node : ℕ) → count_at counts node ≤ count_bound

-- a node fires more often than that
abbrev pub PassesBound : Firings → Type 0
PassesBound counts = (node : ℕ) × (count_bound < counts node)

-- a node has firings left and finds its windows
abbrev pub IsReady : List ChannelRates → (counts left : Firings) → (node : ℕ) → Type 0
IsReady channels counts left node = (0 < left node) × FindsWindows channels counts node

-- no node does
abbrev pub IsStuck : List ChannelRates → (counts left : Firings) → Type 0
IsStuck channels counts left =
    (node : ℕ) → 0 < left node → ¬ FindsWindows channels counts node

-- a node finds its window on the first so many of these channels
abbrev pub HasFirst : NetworkView → (numbers : List ℕ) → Firings → (found : ℕ) → Type 0
HasFirst network numbers counts found =
    (place number : ℕ) (rates : ChannelRates) → place < found
    → slice_get numbers place ≡ Some number → slice_get network.channels number ≡ Some rates
    → HasWindow counts rates

pub record ProgressView : Type 0 where
  pub counts : List ℕ
  pub left : List ℕ
  pub found : List ℕ
  pub ready : List ℕ

-- the numbers are those of a network's nodes, and what is known is so
pub record IsSound (network : NetworkView) (progress : ProgressView) : Type 0 where
  pub counts : length progress.counts ≡ size_of network
  pub left : length progress.left ≡ size_of network
  pub found : length progress.found ≡ size_of network
  pub few : (node : ℕ) → count_at progress.counts node + count_at progress.left node ≤ count_bound
  pub within : (node : ℕ)
      → count_at progress.found node ≤ length (places_at network.incoming node)
  pub windows : (node : ℕ) → HasFirst network (places_at network.incoming node)
      (count_at progress.counts) (count_at progress.found node)
  pub ready : (node : ℕ) → has_number progress.ready node ≡ true
      → IsReady network.channels (count_at progress.counts) (count_at progress.left) node

-- all nodes that are ready are known, but for some
abbrev pub IsCompleteBut : NetworkView → ProgressView → (ℕ → Type 0) → Type 0
IsCompleteBut network progress pending =
    (node : ℕ) → IsReady network.channels (count_at progress.counts) (count_at progress.left) node
    → (has_number progress.ready node ≡ true) ⊎ pending node

-- all nodes that are ready are known
pub record IsProgress (network : NetworkView) (progress : ProgressView) : Type 0 where
  pub sound : IsSound network progress
  pub complete : (node : ℕ)
      → IsReady network.channels (count_at progress.counts) (count_at progress.left) node
      → has_number progress.ready node ≡ true

-- one of these channels ends at a node
abbrev pub EndsAt : NetworkView → (numbers : List ℕ) → (node : ℕ) → Type 0
EndsAt network numbers node =
    (number : ℕ) × Contains numbers number
    × Contains (places_at network.incoming node) number

-- from these counts so many firings are to come, and nothing is known of any node
pub record IsUnseen (size : ℕ) (from to_come : List ℕ) (progress : ProgressView) : Type 0 where
  pub each : length progress.counts ≡ size
  pub counts : count_at progress.counts ≡ count_at from
  pub every : length progress.left ≡ size
  pub left : count_at progress.left ≡ count_at to_come
  pub found : progress.found ≡ replicate size 0
  pub ready : (node : ℕ) → has_number progress.ready node ≡ false

-- from these counts so many firings are to come, and all nodes that are ready are known
pub record Begins (network : NetworkView) (from to_come : List ℕ) (progress : ProgressView) : Type 0
  where
    pub is_so : IsProgress network progress
    pub counts : count_at progress.counts ≡ count_at from
    pub left : count_at progress.left ≡ count_at to_come

-- it is known of one node more whether it is ready
pub record LooksAt (network : NetworkView) (node : ℕ) (before now : ProgressView) : Type 0 where
  pub sound : IsSound network now
  pub counts : now.counts ≡ before.counts
  pub left : now.left ≡ before.left
  pub kept : (other : ℕ) → has_number before.ready other ≡ true
      → has_number now.ready other ≡ true
  pub known : IsReady network.channels (count_at before.counts) (count_at before.left) node
      → has_number now.ready node ≡ true

-- all nodes that are ready are known then
pub record Completes (network : NetworkView) (before now : ProgressView) : Type 0 where
  pub progress : IsProgress network now
  pub counts : now.counts ≡ before.counts
  pub left : now.left ≡ before.left

-- the next unit has fired, and the nodes at which its node's channels end are yet to be looked at
pub record FiresNext (network : NetworkView) (before now : ProgressView) (turns node : ℕ) : Type 0
  where
    pub there : node < size_of network
    pub next : IsNext network.channels (count_at before.counts) (count_at before.left) turns node
    pub counts : count_at now.counts ≡ fired (count_at before.counts) turns node
    pub left : count_at now.left ≡ less_turns (count_at before.left) turns node
    pub sound : IsSound network now
    pub pending : IsCompleteBut network now (EndsAt network (places_at network.outgoing node))

-- the next unit has fired
pub record TakesUnit (network : NetworkView) (before now : ProgressView) (turns node : ℕ) : Type 0
  where
    pub progress : IsProgress network now
    pub next : IsNext network.channels (count_at before.counts) (count_at before.left) turns node
    pub counts : count_at now.counts ≡ fired (count_at before.counts) turns node
    pub left : count_at now.left ≡ less_turns (count_at before.left) turns node

-- so far the units are a greedy order
pub record Orders (network : NetworkView) (counts firings : Firings)
    (order : List units.Unit.Unit) (progress : ProgressView) : Type 0 where
  pub is_so : IsProgress network progress
  pub greedy : IsGreedy network.channels counts firings order
  pub done : count_at progress.counts ≡ after counts (firings_of order)
  pub left : (node : ℕ)
      → count_at progress.left node + firing_count (firings_of order) node ≡ firings node

-- the units are a greedy order after which no node can fire
pub record OrdersAll (network : NetworkView) (before : ProgressView) (order : List units.Unit.Unit)
    (now : ProgressView) : Type 0 where
  pub orders : Orders network (count_at before.counts) (count_at before.left) order now
  pub stuck : IsStuck network.channels (count_at now.counts) (count_at now.left)
