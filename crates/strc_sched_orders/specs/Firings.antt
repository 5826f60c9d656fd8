-- What nodes find on their channels, by how often each node has fired since the beginning (Lee and
-- Messerschmitt 1987: a node fires where its windows have come).
use Rattle.std.specs.Prelude.{◌≡◌, ℕ, zero, suc, ◌+◌, ◌-◌, ◌≤◌, ◌==◌, List, All, if◌then◌else◌}
use Rattle.strc_startup.specs.Startup.{popped, supply}
use Rattle.strc_startup.specs.declared.channel_rates.ChannelRates.{ChannelRates}

-- how often each node has fired, or is to fire
abbrev pub Firings : Type 0
Firings = (node : ℕ) → ℕ

-- before any firing
abbrev pub none_fired : Firings
none_fired node = 0

-- a number of firings of a node, and none of any other
abbrev pub turns_of : (turns node : ℕ) → Firings
turns_of turns node other = if other == node then turns else 0

-- after so many more firings of a node
abbrev pub fired : Firings → (turns node : ℕ) → Firings
fired counts turns node other = counts other + turns_of turns node other

-- how far the next firing of a channel's target sees, after so many, from the first item that was
-- ever on the channel
abbrev pub reach : ChannelRates → (firings : ℕ) → ℕ
reach rates zero = rates.first_window
reach rates (suc firings) = popped rates (suc firings) + rates.window

-- the next firing of a channel's target finds its window there
abbrev pub HasWindow : Firings → ChannelRates → Type 0
HasWindow counts rates = reach rates (counts rates.target) ≤ supply rates (counts rates.source)

-- the next firing of a node finds all its windows
abbrev pub FindsWindows : List ChannelRates → Firings → (node : ℕ) → Type 0
FindsWindows channels counts node =
    All (λ rates. rates.target ≡ node → HasWindow counts rates) channels

-- how many items are on a channel
abbrev pub fill : ChannelRates → Firings → ℕ
fill rates counts = supply rates (counts rates.source) - popped rates (counts rates.target)
