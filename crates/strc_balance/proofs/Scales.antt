-- The scale of fractions, and their counts, one fraction further.
use Rattle.std.proofs.Common.{◌≡◌, ℕ, ◌+◌, ◌<◌, ◌≤◌, true, List, [], ◌∷◌, ◌++◌, length, map, get_or}
use Rattle.std.proofs.Common.{drop, take, Option, Some, None, sym, ap, ◌∙◌, arith}
use Rattle.std.specs.List.{list_any}
use Rattle.std.proofs.lemmas.List.{at_drop_more, get_or-drop, get_or-map, length-map, map_more}
use Rattle.std.proofs.lemmas.Nat.Gcd.{le_of_dvd}
use Rattle.strc_balance.specs.declared.fraction.Fraction.{Fraction}
use Rattle.strc_balance.specs.Divisors.{multiple}
use Rattle.strc_balance.specs.Balance.{Fractions, scale_by, scale_from, whole_count, passes}
use Rattle.strc_balance.specs.Frontiers.{ArePositive}
use Rattle.strc_balance.proofs.Divisors.{multiple_positive}
use Rattle.strc_balance.proofs.Limits.{passes-above}
use Rattle.strc_balance.proofs.Spreading.{Known}
use Rattle.strc_balance.proofs.Quantifiers.{list_any-holds}
use Rattle.strc_balance.proofs.Solutions.{scale_from-divides, scale_from-positive}

pub scale_more : (scale : ℕ) (fractions : Fractions) (i : ℕ) (fraction : Option Fraction)
    → i < length fractions → get_or fractions i None ≡ fraction
    → scale_from scale (drop i fractions)
    ≡ scale_from (scale_by fraction scale) (drop (i + 1) fractions)
scale_more scale fractions i fraction within is =
    at_drop_more (scale_from scale) fractions i None within
    ∙ ap (λ o. scale_from (scale_by o scale) (drop (i + 1) fractions)) is

-- a scale never falls
scale_from-le : (scale : ℕ) (fractions : Fractions) → 0 < scale
    → Known (λ node f. 0 < f.bottom) fractions → scale ≤ scale_from scale fractions
scale_from-le scale fractions some positive =
    le_of_dvd (scale_from-positive scale fractions some positive)
    (scale_from-divides scale fractions)

rest-positive : (fractions : Fractions) (i : ℕ) → ArePositive fractions
    → Known (λ node f. 0 < f.bottom) (drop i fractions)
rest-positive fractions i positive node f is =
    (positive (i + node) f (sym (get_or-drop i fractions node None) ∙ is)).1

-- where it passes the limit so far, it passes it at the end
pub scale-passes : (scale : ℕ) (fractions : Fractions) (i : ℕ) → 0 < scale → ArePositive fractions
    → scale_from scale (drop i fractions) ≡ scale_from 1 fractions → 1000000 < scale
    → passes (scale_from 1 fractions) ≡ true
scale-passes scale fractions i some positive is above =
    let grown = scale_from-le scale (drop i fractions) some (rest-positive fractions i positive) in
    passes-above (scale_from 1 fractions) (omega arith)

pub multiple-positive : (scale : ℕ) (fractions : Fractions) (i : ℕ) (fraction : Fraction)
    → 0 < scale → ArePositive fractions → get_or fractions i None ≡ Some fraction
    → 0 < multiple scale fraction.bottom
multiple-positive scale fractions i fraction some positive is =
    multiple_positive scale fraction.bottom some (positive i fraction is).1

-- where one count passes the limit, some count does
pub count-passes : (scale : ℕ) (fractions : Fractions) (i count : ℕ) → i < length fractions
    → count ≡ whole_count scale (get_or fractions i None) → 1000000 < count
    → list_any passes (map (whole_count scale) fractions) ≡ true
count-passes scale fractions i count within is above =
    list_any-holds passes (map (whole_count scale) fractions) i 0
    (let e = length-map fractions (whole_count scale) in omega arith)
    (ap passes (get_or-map (whole_count scale) fractions i None 0 within ∙ sym is)
    ∙ passes-above count above)

-- one more count
pub counts_more : (scale : ℕ) (fractions : Fractions) (i count : ℕ) (counts : List ℕ)
    → i < length fractions → counts ≡ map (whole_count scale) (take i fractions)
    → count ≡ whole_count scale (get_or fractions i None)
    → counts ++ count ∷ [] ≡ map (whole_count scale) (take (i + 1) fractions)
counts_more scale fractions i count counts within found is =
    ap (λ l. l ++ count ∷ []) found ∙ ap (λ n. map (whole_count scale) (take i fractions) ++ n ∷ [])
    is ∙ sym (map_more (whole_count scale) fractions i None within)
