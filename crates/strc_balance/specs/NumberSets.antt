-- Sets of numbers as words of 64 bits.
use Rattle.std.specs.Prelude.{◌≡◌, ℕ, zero, suc, ◌+◌, ◌/◌, ◌%◌, ◌==◌, ◌≤◌, ◌^◌, nat_lt, Bool, true}
use Rattle.std.specs.Prelude.{false, List, length, slice_index, if◌then◌else◌}
use Rattle.std.specs.Int.{bit_at}

-- whether a set has a number: a bit of a word
abbrev pub has_number : (words : List ℕ) → (number : ℕ) → Bool
has_number words number = bit_at (slice_index words (number / 64)) (number % 64) == 1

-- words of numbers of 64 bits, and a set of those that have a bit
pub record AreWords (words used : List ℕ) : Type 0 where
  pub uses : (word : ℕ) → has_number used word ≡ nat_lt 0 (slice_index words word)
  pub few : length words ≤ 2 ^ 58
  pub few_used : length used ≤ 2 ^ 58

-- the same numbers and another one
abbrev pub IsWith : (number : ℕ) → (old new : List ℕ) → Type 0
IsWith number old new =
    (other : ℕ) → has_number new other ≡ (if other == number then true else has_number old other)

-- the same numbers but for one
abbrev pub IsWithout : (number : ℕ) → (old new : List ℕ) → Type 0
IsWithout number old new =
    (other : ℕ) → has_number new other ≡ (if other == number then false else has_number old other)

-- each number of a set
abbrev pub AllNumbers : (ℕ → Type 0) → (words : List ℕ) → Type 0
AllNumbers P words = (number : ℕ) → has_number words number ≡ true → P number

-- how many numbers below a bound a set has
abbrev pub size_below : (words : List ℕ) → (bound : ℕ) → ℕ
size_below words zero = 0
size_below words (suc bound) =
    size_below words bound + (if has_number words bound then 1 else 0)
