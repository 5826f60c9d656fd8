-- Greatest common divisors, least common multiples, and fractions in lowest terms.
use Rattle.std.specs.Prelude.{ℕ, zero, suc, ◌+◌, ◌*◌, ◌/◌, ◌%◌, ◌==◌, if◌then◌else◌}
use Rattle.strc_balance.specs.declared.fraction.Fraction.{Fraction}

-- the greatest common divisor by Euclid's algorithm, in so many steps
abbrev pub divisor_within : ℕ → ℕ → ℕ → ℕ
divisor_within zero a b = a
divisor_within (suc steps) a b = if b == 0 then a else divisor_within steps b (a % b)

-- the greatest common divisor: the second number falls with each step
unfoldable pub divisor : ℕ → ℕ → ℕ
divisor a b = divisor_within (b + 1) a b

-- the least common multiple
unfoldable pub multiple : ℕ → ℕ → ℕ
multiple a b = a * (b / divisor a b)

-- a fraction in lowest terms
unfoldable pub lowest_terms : ℕ → ℕ → Fraction
lowest_terms top bottom = record {
  top = top / divisor top bottom;
  bottom =
      bottom / divisor top bottom;
}
