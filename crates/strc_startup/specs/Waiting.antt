-- Nodes whose count was raised wait until what they need has come.
use Rattle.std.specs.Prelude.{◌≡◌, ℕ, ◌^◌, ◌<◌, ◌⊎◌, true, List}
use Rattle.strc_balance.specs.NumberSets.{has_number}
use Rattle.strc_startup.specs.Startup.{IsMet}
use Rattle.strc_startup.specs.declared.channel_rates.ChannelRates.{ChannelRates}

-- both ends of a channel are nodes
pub record HasEnds (size : ℕ) (rates : ChannelRates) : Type 0 where
  pub source : rates.source < size
  pub target : rates.target < size

-- a channel's source pushes
abbrev pub Pushes : ChannelRates → Type 0
Pushes rates = 0 < rates.push

-- nodes have numbers of 32 bits, and the rates are sums of fewer than 2 ^ 64 weights
pub record IsBounded (rates : ChannelRates) : Type 0 where
  pub source : rates.source < 2 ^ 32
  pub target : rates.target < 2 ^ 32
  pub first_push : rates.first_push < 2 ^ 96
  pub push : rates.push < 2 ^ 96
  pub enqueued : rates.enqueued < 2 ^ 64
  pub prework_window : rates.prework_window < 2 ^ 96
  pub first_window : rates.first_window < 2 ^ 96
  pub first_pop : rates.first_pop < 2 ^ 96
  pub pop : rates.pop < 2 ^ 96
  pub window : rates.window < 2 ^ 96

-- a channel is met, or its target waits
abbrev pub Waits : (counts waiting : List ℕ) → ChannelRates → Type 0
Waits counts waiting rates = IsMet counts rates ⊎ (has_number waiting rates.target ≡ true)
