-- Which channels can give a fraction next: all of them are in a frontier, and each in the lists
-- of its two ends.
use Rattle.std.specs.Prelude.{◌≡◌, ◌≢◌, ◌⊎◌, ℕ, ◌^◌, ◌<◌, Bool, true, false, List, [], Contains}
use Rattle.std.specs.Prelude.{slice_get, slice_index_or, Option, Some, None}
use Rattle.strc_balance.specs.declared.equation.Equation.{Equation}
use Rattle.strc_balance.specs.declared.fraction.Fraction.{Fraction}
use Rattle.strc_balance.specs.declared.error.BalanceError.{BalanceError}
use Rattle.strc_balance.specs.declared.error.BalanceError.TheVariants as refused
use Rattle.strc_balance.specs.Balance.{Fractions, fraction_at, given, fraction_passes}
use Rattle.strc_balance.specs.NumberSets.{has_number}

-- the rates are sums of fewer than 2 ^ 64 weights
pub record IsBounded (equation : Equation) : Type 0 where
  pub push : equation.push < 2 ^ 96
  pub pop : equation.pop < 2 ^ 96

-- both parts of each known fraction are above 0
abbrev pub ArePositive : Fractions → Type 0
ArePositive fractions = (node : ℕ) (fraction : Fraction)
    → fraction_at fractions node ≡ Some fraction → (0 < fraction.top) × (0 < fraction.bottom)

-- each channel that gives a fraction is in the frontier
abbrev pub Covers : List ℕ → Fractions → List Equation → Type 0
Covers frontier fractions equations =
    (channel : ℕ) (equation : Equation) (found : ℕ × Fraction)
    → slice_get equations channel ≡ Some equation → given fractions equation ≡ Some found
    → has_number frontier channel ≡ true

-- each one of those that have no end at a node
abbrev pub CoversApart : ℕ → List ℕ → Fractions → List Equation → Type 0
CoversApart node frontier fractions equations =
    (channel : ℕ) (equation : Equation) (found : ℕ × Fraction)
    → slice_get equations channel ≡ Some equation → equation.source ≢ node
    → equation.target ≢ node → given fractions equation ≡ Some found
    → has_number frontier channel ≡ true

-- more channels in a frontier
pub record Adds (channels old new : List ℕ) : Type 0 where
  pub kept : (channel : ℕ) → has_number old channel ≡ true → has_number new channel ≡ true
  pub added : (channel : ℕ) → Contains channels channel → has_number new channel ≡ true
  pub only : (channel : ℕ) → has_number new channel ≡ true
      → (has_number old channel ≡ true) ⊎ Contains channels channel

-- the channels listed at a node
abbrev pub channels_at : List (List ℕ) → ℕ → List ℕ
channels_at lists node = slice_index_or lists node []

-- each channel is listed at both its ends
abbrev pub IsIncidence : List (List ℕ) → List Equation → Type 0
IsIncidence lists equations =
    (channel : ℕ) (equation : Equation) → slice_get equations channel ≡ Some equation
    → Contains (channels_at lists equation.source) channel
    × Contains (channels_at lists equation.target) channel

-- what an equation gives passes the limit
abbrev pub found_passes : Option (ℕ × Fraction) → Bool
found_passes None = false
found_passes (Some found) = fraction_passes (Some found.1)

-- the refusal is that
pub record IsTooLarge (large : Bool) (refusal : BalanceError) : Type 0 where
  pub is : refusal ≡ refused.CountsTooLarge
  pub passes : large ≡ true

-- the refusal is that, or memory ran out
abbrev pub IsLargeOrMemory : Bool → BalanceError → Type 0
IsLargeOrMemory large refused.NoMemory = Unit {0}
IsLargeOrMemory large refusal = IsTooLarge large refusal
