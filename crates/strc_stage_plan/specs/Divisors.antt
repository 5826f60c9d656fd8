-- Among how many copies firings can be dealt evenly.
use Rattle.std.specs.Prelude.{◌≡◌, ℕ, ◌*◌, ◌<◌, ◌≤◌, max}
use Rattle.strc_fiss.specs.Ways.{greatest_divisor}

-- a number of copies with as many firings each
pub record Divides (divisor count : ℕ) : Type 0 where
  pub some : 0 < divisor
  pub share : ℕ
  pub whole : divisor * share ≡ count

-- of the numbers that divide another one and are at most a third the greatest; 1 where none is
pub record IsGreatestDivisor (count most divisor : ℕ) : Type 0 where
  pub divides : Divides divisor count
  pub within : divisor ≤ max 1 most
  pub greatest : (other : ℕ) → other ≤ most → Divides other count → other ≤ divisor

abbrev pub GreatestDivisorDivides : Type 0
GreatestDivisorDivides =
    (count most : ℕ) → IsGreatestDivisor count most (greatest_divisor count most)
