-- Orders of firings.
use Rattle.std.specs.Prelude.{◌≡◌, ℕ, zero, suc, ◌+◌, List, [], ◌∷◌, ◌++◌}
use Rattle.strc_startup.specs.declared.channel_rates.ChannelRates.{ChannelRates}
use Rattle.strc_sched_orders.specs.Firings.{Firings, turns_of, fired, FindsWindows}

-- how often each node occurs in an order
abbrev pub firing_count : (order : List ℕ) → Firings
firing_count [] other = 0
firing_count (node ∷ order) other = turns_of 1 node other + firing_count order other

-- after an order
abbrev pub after : Firings → (order : List ℕ) → Firings
after counts order node = counts node + firing_count order node

-- from these counts each firing of an order finds its windows
abbrev pub IsOrder : List ChannelRates → Firings → (order : List ℕ) → Type 0
IsOrder channels counts [] = Unit {0}
IsOrder channels counts (node ∷ order) =
    FindsWindows channels counts node × IsOrder channels (fired counts 1 node) order

-- so many firings of each node have an order from these counts
abbrev pub HasOrder : List ChannelRates → Firings → (firings : Firings) → Type 0
HasOrder channels counts firings =
    (order : List ℕ) × IsOrder channels counts order
    × ((node : ℕ) → firing_count order node ≡ firings node)

-- a list of nodes a number of times
abbrev pub repeated : (turns : ℕ) → List ℕ → List ℕ
repeated zero nodes = []
repeated (suc turns) nodes = nodes ++ repeated turns nodes
