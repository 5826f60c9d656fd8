-- The values of a counted loop's variable.
use Rattle.std.proofs.Common.{◌≡◌, ℕ, ◌-◌, ◌*◌, ◌≤◌, ◌<◌, ◌^◌, suc, ℤ, pos, negsuc, neg_ℤ, ◌+ℤ◌}
use Rattle.std.proofs.Common.{◌*ℤ◌, ◌≤ℤ◌, true, arith, FitsSigned, w32}
use Rattle.std.proofs.Math.Nat.{mul-le-mul_right}
use Rattle.std.proofs.lemmas.Int.{ints}
use Rattle.strc_rate_intervals.specs.Loops.{within_32_bits}
use Rattle.strc_rate_intervals.proofs.Narrowing.{within_fits, fits_within}

at_least : (z : ℤ) → FitsSigned w32 z → negsuc 2147483647 ≤ℤ z
at_least (pos n) fits = omega (arith, ints)
at_least (negsuc n) fits = let h : n < 2 ^ 31 = fits.sfits in omega (arith, ints)

at_most : (z : ℤ) → FitsSigned w32 z → z ≤ℤ pos 2147483647
at_most (pos n) fits = let h : n < 2 ^ 31 = fits.sfits in omega (arith, ints)
at_most (negsuc n) fits = omega (arith, ints)

within_ends : (z : ℤ) → negsuc 2147483647 ≤ℤ z → z ≤ℤ pos 2147483647 → FitsSigned w32 z
within_ends (pos n) low high = let h : n < 2 ^ 31 = omega (arith, ints) in record { sfits = h }
within_ends (negsuc n) low high = let h : n < 2 ^ 31 = omega (arith, ints) in record { sfits = h }

up_to : (start : ℤ) (a b : ℕ) → a ≤ b → FitsSigned w32 start → FitsSigned w32 (start +ℤ pos b)
    → FitsSigned w32 (start +ℤ pos a)
up_to start a b le f g =
    let low = at_least start f in
    let high = at_most (start +ℤ pos b) g in
    within_ends (start +ℤ pos a) (omega (arith, ints)) (omega (arith, ints))

down_to : (start : ℤ) (a b : ℕ) → a ≤ b → FitsSigned w32 start
    → FitsSigned w32 (start +ℤ neg_ℤ (pos b)) → FitsSigned w32 (start +ℤ neg_ℤ (pos a))
down_to start a b le f g =
    let high = at_most start f in
    let low = at_least (start +ℤ neg_ℤ (pos b)) g in
    within_ends (start +ℤ neg_ℤ (pos a)) (omega (arith, ints)) (omega (arith, ints))

-- one turn before, the value is between the first one and the one after
last_fits : (start move : ℤ) (turns : ℕ) → FitsSigned w32 start
    → FitsSigned w32 (start +ℤ pos turns *ℤ move)
    → FitsSigned w32 (start +ℤ pos (turns - 1) *ℤ move)
last_fits start (pos m) turns f g = up_to start ((turns - 1) * m) (turns * m)
    (mul-le-mul_right m (omega arith)) f g
last_fits start (negsuc m) turns f g = down_to start ((turns - 1) * suc m) (turns * suc m)
    (mul-le-mul_right (suc m) (omega arith)) f g

-- so 32 bits hold it
pub last_within : (start move : ℤ) (turns : ℕ) → FitsSigned w32 start
    → within_32_bits (start +ℤ pos turns *ℤ move) ≡ true
    → within_32_bits (start +ℤ pos (turns - 1) *ℤ move) ≡ true
last_within start move turns fits h =
    within_fits (start +ℤ pos (turns - 1) *ℤ move)
    (last_fits start move turns fits (fits_within (start +ℤ pos turns *ℤ move) h))
