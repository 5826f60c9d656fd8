-- The channels of a graph, by number and by the nodes at their ends.
use Rattle.std.specs.Prelude.{◌≡◌, ℕ, ◌≤◌, ◌^◌, List, length, map, All}
use Rattle.strc_startup.specs.Grouping.{IsGrouping}
use Rattle.strc_startup.specs.Waiting.{HasEnds, IsBounded}
use Rattle.strc_startup.specs.declared.channel_rates.ChannelRates.{ChannelRates}

-- the rates of all channels, and for each node the numbers of those that end and begin there
pub record NetworkView : Type 0 where
  pub channels : List ChannelRates
  pub incoming : List (List ℕ)
  pub outgoing : List (List ℕ)

-- how many nodes there are
abbrev pub size_of : NetworkView → ℕ
size_of network = length network.incoming

-- both ends of each channel are nodes, and each channel is listed at its ends
pub record IsNetwork (network : NetworkView) : Type 0 where
  pub nodes : length network.outgoing ≡ size_of network
  pub few : size_of network ≤ 2 ^ 32
  pub ends : All (HasEnds (size_of network)) network.channels
  pub bounds : All IsBounded network.channels
  pub incoming : IsGrouping network.incoming (map (λ rates. rates.target) network.channels)
  pub outgoing : IsGrouping network.outgoing (map (λ rates. rates.source) network.channels)
