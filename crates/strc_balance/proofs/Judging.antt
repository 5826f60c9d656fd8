-- What the judgement is where the scale of the fractions passes the limit, and what it promises.
use Rattle.std.proofs.Common.{◌≡◌, ℕ, zero, suc, ◌*◌, ◌/◌, ◌<◌, Bool, true, false, ◌||◌, cond, List}
use Rattle.std.proofs.Common.{length, map, Option, Some, None, Result, Ok, Err, IfOk, sym, ap}
use Rattle.std.proofs.Common.{subst, ◌∙◌, refl, arith}
use Rattle.std.specs.List.{All, list_any}
use Rattle.std.proofs.lemmas.Bool.{false≢true}
use Rattle.std.proofs.lemmas.List.{length-map}
use Rattle.strc_balance.specs.declared.equation.Equation.{Equation}
use Rattle.strc_balance.specs.declared.error.BalanceError.{BalanceError}
use Rattle.strc_balance.specs.declared.error.BalanceError.TheVariants as refused
use Rattle.strc_balance.specs.Balance.{count_at, IsLeast, Balances, IsWithinLimit, spread}
use Rattle.strc_balance.specs.Balance.{scale_from, whole_count, whole_counts, passes}
use Rattle.strc_balance.specs.Balance.{fraction_passes, is_too_large, first_unbalanced, HasRates}
use Rattle.strc_balance.specs.Balance.{AreConnected}
use Rattle.strc_balance.specs.Frontiers.{ArePositive}
use Rattle.strc_balance.specs.Verdicts.{IsVerdict, tested, judged}
use Rattle.strc_balance.proofs.Limits.{passes-within}
use Rattle.strc_balance.proofs.Spreading.{spread-length, spread-first}
use Rattle.strc_balance.proofs.Solutions.{counts-at, spread-lowest, least_solution, no_solution}
use Rattle.strc_balance.proofs.Solutions.{too_large}
use Rattle.strc_balance.proofs.Quantifiers.{list_any-holds}

pub spread-positive : (size : ℕ) (equations : List Equation) → All (HasRates size) equations
    → ArePositive (spread size equations)
spread-positive size equations rates node fraction is = let h =
    spread-lowest size equations rates node fraction is in (h.top, h.bottom)

pub counts-length : (size : ℕ) (equations : List Equation) (scale : ℕ)
    → length (map (whole_count scale) (spread size equations)) ≡ size
counts-length size equations scale = length-map (spread size equations) (whole_count scale)
    ∙ spread-length size equations

-- node 0's count is the scale
whole_one : (scale : ℕ) → 1 * (scale / 1) ≡ scale
whole_one scale = omega arith

one_true : (a b : Bool) → b ≡ true → (a || b) ≡ true
one_true true b h = refl
one_true false b h = h

pub scale_too_large : (size : ℕ) (equations : List Equation)
    → passes (scale_from 1 (spread size equations)) ≡ true
    → is_too_large (spread size equations) ≡ true
scale_too_large zero equations h = absurd (false≢true (sym (passes-within 1 (omega arith)) ∙ h))
scale_too_large (suc size) equations h =
    let fractions = spread (suc size) equations in
    let scale = scale_from 1 fractions in
    let counts = whole_counts fractions in
    let some : 0 < length counts = (let e = counts-length (suc size) equations scale in omega arith)
    in
    let first : count_at counts 0 ≡ scale = counts-at scale fractions 0
    ∙ ap (whole_count scale) (spread-first (suc size) equations (omega arith))
    ∙ whole_one scale in
    one_true (list_any fraction_passes fractions) (list_any passes counts)
    (list_any-holds passes counts 0 0 some (ap passes first ∙ h))

pub judged-too_large : (size : ℕ) (equations : List Equation)
    → is_too_large (spread size equations) ≡ true
    → judged size equations ≡ Err refused.CountsTooLarge
judged-too_large size equations h =
    let fractions = spread size equations in
    let answer : Result (List ℕ) BalanceError =
    tested (whole_counts fractions) (first_unbalanced 0 (whole_counts fractions) equations) in
    let large : Result (List ℕ) BalanceError = Err refused.CountsTooLarge in
    ap (λ b. cond b large answer) h

-- the answers of the judgement

ok_of : (large : Bool) (counts : List ℕ) (unbalanced : Option ℕ) (answer : List ℕ)
    → cond large (Err refused.CountsTooLarge) (tested counts unbalanced) ≡ Ok answer
    → (unbalanced ≡ None) × (counts ≡ answer)
ok_of true counts unbalanced answer h = absurd (cc h)
ok_of false counts None answer h = (refl, cc h)
ok_of false counts (Some channel) answer h = absurd (cc h)

large_of : (large : Bool) (counts : List ℕ) (unbalanced : Option ℕ)
    → cond large (Err refused.CountsTooLarge) (tested counts unbalanced)
    ≡ Err refused.CountsTooLarge → large ≡ true
large_of true counts unbalanced h = refl
large_of false counts None h = absurd (cc h)
large_of false counts (Some channel) h = absurd (cc h)

unbalanced_of : (large : Bool) (counts : List ℕ) (unbalanced : Option ℕ) (channel : ℕ)
    → cond large (Err refused.CountsTooLarge) (tested counts unbalanced)
    ≡ Err (refused.Inconsistent channel) → unbalanced ≡ Some channel
unbalanced_of true counts unbalanced channel h = absurd (cc h)
unbalanced_of false counts None channel h = absurd (cc h)
unbalanced_of false counts (Some other) channel h = cc h

-- what each answer promises

pub judged-least : (size : ℕ) (equations : List Equation) → All (HasRates size) equations
    → AreConnected size equations → (result : Result (List ℕ) BalanceError)
    → IsVerdict (judged size equations) result → IfOk result (IsLeast size equations)
judged-least size equations rates connected (Err refusal) h = tt
judged-least size equations rates connected (Ok answer) h =
    let fractions = spread size equations in
    let counts = whole_counts fractions in
    let parts = ok_of (is_too_large fractions) counts (first_unbalanced 0 counts equations) answer h
    in
    subst (IsLeast size equations) parts.1 (least_solution size equations rates connected parts.0)

pub judged-large : (size : ℕ) (equations : List Equation) → All (HasRates size) equations
    → (result : Result (List ℕ) BalanceError) → IsVerdict (judged size equations) result
    → result ≡ Err refused.CountsTooLarge → (counts : List ℕ) → Balances size equations counts
    → ¬ IsWithinLimit counts
judged-large size equations rates result verdict is =
    let fractions = spread size equations in
    let own = whole_counts fractions in
    let h : judged size equations ≡ Err refused.CountsTooLarge =
    subst (IsVerdict (judged size equations)) is verdict in
    too_large size equations rates (large_of (is_too_large fractions) own
    (first_unbalanced 0 own equations) h)

pub judged-inconsistent : (size : ℕ) (equations : List Equation) → All (HasRates size) equations
    → AreConnected size equations → (result : Result (List ℕ) BalanceError)
    → IsVerdict (judged size equations) result → (channel : ℕ)
    → result ≡ Err (refused.Inconsistent channel) → (counts : List ℕ)
    → ¬ Balances size equations counts
judged-inconsistent size equations rates connected result verdict channel is =
    let fractions = spread size equations in
    let own = whole_counts fractions in
    let h : judged size equations ≡ Err (refused.Inconsistent channel) =
    subst (IsVerdict (judged size equations)) is verdict in
    no_solution size channel equations rates connected
    (unbalanced_of (is_too_large fractions) own (first_unbalanced 0 own equations) channel h)

pub judged-size : (size : ℕ) (equations : List Equation) → (result : Result (List ℕ) BalanceError)
    → IfOk result (IsLeast size equations) → IfOk result (λ counts. length counts ≡ size)
judged-size size equations (Err refusal) h = tt
judged-size size equations (Ok counts) h = h.balances.each
