-- How counts are raised towards the least ones that prime a graph.
use Rattle.std.specs.Prelude.{◌≡◌, ℕ, ◌+◌, ◌-◌, ◌*◌, ◌<◌, ◌≤◌, List, length, All}
use Rattle.std.specs.List.{sum_by}
use Rattle.strc_balance.specs.Balance.{count_at, count_limit, IsWithinLimit}
use Rattle.strc_balance.specs.NumberSets.{AllNumbers, size_below}
use Rattle.strc_startup.specs.Startup.{IsMet}
use Rattle.strc_startup.specs.Waiting.{Waits}
use Rattle.strc_startup.specs.declared.channel_rates.ChannelRates.{ChannelRates}

-- counts are at most others
abbrev pub IsBelow : (counts other : List ℕ) → Type 0
IsBelow counts other = (node : ℕ) → count_at counts node ≤ count_at other node

-- how far counts are from the limit, all together
abbrev pub room : List ℕ → ℕ
room counts = sum_by (λ count. count_limit - count) counts

-- counts were raised no further than these channels ask for, and each raised node waits
pub record Raises (channels : List ChannelRates) (before waited after waiting : List ℕ) : Type 0
  where
    pub each : length after ≡ length before
    pub grown : IsBelow before after
    pub within : IsWithinLimit after
    pub below : (other : List ℕ) → All (IsMet other) channels → IsBelow before other
        → IsBelow after other
    pub kept : (rates : ChannelRates) → Waits before waited rates → Waits after waiting rates
    pub numbers : AllNumbers (λ node. node < length after) waiting
    pub steps : 2 * room after + size_below waiting (length after)
        ≤ 2 * room before + size_below waited (length before)

-- no counts within the limit that are above these meet these channels
abbrev pub IsUnbounded : List ChannelRates → (before : List ℕ) → Type 0
IsUnbounded channels before =
    (other : List ℕ) → All (IsMet other) channels → IsBelow before other → ¬ IsWithinLimit other
