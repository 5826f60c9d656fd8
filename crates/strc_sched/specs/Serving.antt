-- How many rounds an input serves.
use Rattle.std.specs.Prelude.{◌≡◌, ℕ, ◌+◌, ◌*◌, ◌-◌, ◌^◌, ◌<◌, ◌≤◌, ◌⊎◌, Option, Some, None}

-- how many rounds there may be
abbrev pub round_limit : ℕ
round_limit = 2 ^ 32 - 1

-- start-up and so many rounds read no more than so many items, and no more rounds do, within the
-- limit
pub record Serves (need : ℕ → ℕ) (got rounds : ℕ) : Type 0 where
  pub start : need 0 ≤ got
  pub enough : need rounds ≤ got
  pub within : rounds ≤ round_limit
  pub most : (rounds ≡ round_limit) ⊎ (got < need (rounds + 1))

-- an answer is the greatest number of rounds that so many items serve; none where start-up reads
-- more
abbrev pub IsServed : (need : ℕ → ℕ) → (got : ℕ) → Option ℕ → Type 0
IsServed need got (Some rounds) = Serves need got rounds
IsServed need got None = got < need 0

-- start-up reads so many items, and each round
abbrev pub reads_by_round : (before each rounds : ℕ) → ℕ
reads_by_round before each rounds = before + rounds * each
