-- What passes the limit of a count.
use Rattle.std.proofs.Common.{◌≡◌, ℕ, ◌<◌, ◌≤◌, ◌||◌, Bool, true, false, Some, ap, ◌∙◌, refl, arith}
use Rattle.std.proofs.lemmas.Bool.{lt-ltb, le-ltb, ltb-false}
use Rattle.strc_balance.specs.declared.fraction.Fraction.{Fraction}
use Rattle.strc_balance.specs.Balance.{count_limit, passes, fraction_passes}

pub limit_is : count_limit ≡ 1000000
limit_is = refl

pub passes-above : (count : ℕ) → 1000000 < count → passes count ≡ true
passes-above count h = let l = limit_is in lt-ltb count_limit count (omega arith)

pub passes-within : (count : ℕ) → count ≤ 1000000 → passes count ≡ false
passes-within count h = let l = limit_is in le-ltb count_limit count (omega arith)

pub within-limit : (count : ℕ) → passes count ≡ false → count ≤ 1000000
within-limit count h = let l = limit_is in let w = ltb-false count_limit count h in omega arith

or-left : (a b : Bool) → a ≡ true → (a || b) ≡ true
or-left a b h = ap (λ x. x || b) h

or-right : (a b : Bool) → b ≡ true → (a || b) ≡ true
or-right true b h = refl
or-right false b h = h

or-neither : (a b : Bool) → a ≡ false → b ≡ false → (a || b) ≡ false
or-neither a b h k = ap (λ x. x || b) h ∙ k

pub top_passes : (fraction : Fraction) → 1000000 < fraction.top → fraction_passes (Some fraction)
    ≡ true
top_passes f h = or-left (passes f.top) (passes f.bottom) (passes-above f.top h)

pub bottom_passes : (fraction : Fraction) → 1000000 < fraction.bottom
    → fraction_passes (Some fraction) ≡ true
bottom_passes f h = or-right (passes f.top) (passes f.bottom) (passes-above f.bottom h)

pub parts_within : (fraction : Fraction) → fraction.top ≤ 1000000 → fraction.bottom ≤ 1000000
    → fraction_passes (Some fraction) ≡ false
parts_within f h k = or-neither (passes f.top) (passes f.bottom) (passes-within f.top h)
    (passes-within f.bottom k)
