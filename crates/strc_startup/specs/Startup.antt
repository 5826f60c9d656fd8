-- Start-up counts: how often nodes fire before the first round, so that in each round each node
-- finds what it looks at (StreamIt specification 2.1, "Filters": peeking and `prework`; Lee and
-- Messerschmitt 1987: delays).
use Rattle.std.specs.Prelude.{◌≡◌, ℕ, zero, suc, ◌+◌, ◌-◌, ◌*◌, ◌≤◌, max, List, length, All}
use Rattle.strc_balance.specs.Balance.{count_at}
use Rattle.strc_startup.specs.declared.channel_rates.ChannelRates.{ChannelRates}

-- how many items so many firings of a channel's source push on it, the first one by prework
abbrev pub pushed : ChannelRates → (firings : ℕ) → ℕ
pushed rates zero = 0
pushed rates (suc firings) = rates.first_push + rates.push * firings

-- how many items so many firings of its target pop from it
abbrev pub popped : ChannelRates → (firings : ℕ) → ℕ
popped rates zero = 0
popped rates (suc firings) = rates.first_pop + rates.pop * firings

-- how many items must have come, so that after so many firings of its target the next firing by
-- work finds its window but for what one firing pops; and that a prework finds its own window
abbrev pub need : ChannelRates → (firings : ℕ) → ℕ
need rates firings = max rates.prework_window (popped rates firings + (rates.window - rates.pop))

-- how many items have come after so many firings of its source
abbrev pub supply : ChannelRates → (firings : ℕ) → ℕ
supply rates firings = rates.enqueued + pushed rates firings

-- on a channel as many items have come as are needed
abbrev pub IsMet : (counts : List ℕ) → ChannelRates → Type 0
IsMet counts rates =
    need rates (count_at counts rates.target) ≤ supply rates (count_at counts rates.source)

-- counts that prime a graph: a node with a prework fires once at least, and each channel is met
pub record IsPrimed (first : List ℕ) (channels : List ChannelRates) (counts : List ℕ) : Type 0 where
  pub each : length counts ≡ length first
  pub past_prework : (node : ℕ) → count_at first node ≤ count_at counts node
  pub met : All (IsMet counts) channels

-- no other such counts fire any node less often
pub record IsLeast (first : List ℕ) (channels : List ChannelRates) (counts : List ℕ) : Type 0 where
  pub primed : IsPrimed first channels counts
  pub least : (other : List ℕ) → IsPrimed first channels other → (node : ℕ)
      → count_at counts node ≤ count_at other node
