-- What is answered for balance equations: their least solution, or why there is none.
use Rattle.std.specs.Prelude.{◌≡◌, ℕ, List, Option, Some, None, Result, Ok, Err, if◌then◌else◌}
use Rattle.strc_balance.specs.declared.equation.Equation.{Equation}
use Rattle.strc_balance.specs.declared.error.BalanceError.{BalanceError}
use Rattle.strc_balance.specs.declared.error.BalanceError.TheVariants as refused
use Rattle.strc_balance.specs.Balance.{spread, whole_counts, is_too_large, first_unbalanced}

-- the counts, unless an equation fails
abbrev pub tested : List ℕ → Option ℕ → Result (List ℕ) BalanceError
tested counts None = Ok counts
tested counts (Some channel) = Err (refused.Inconsistent channel)

-- the counts of the spread: they may be too large, and then the lowest channel that they don't
-- balance is reported
abbrev pub judged : ℕ → List Equation → Result (List ℕ) BalanceError
judged size equations =
    let fractions = spread size equations in
    if is_too_large fractions then Err refused.CountsTooLarge
    else tested (whole_counts fractions) (first_unbalanced 0 (whole_counts fractions) equations)

-- the judgement's refusal, or memory ran out
abbrev pub IsRefusal : {A : Type 0} → Result A BalanceError → BalanceError → Type 0
IsRefusal expected refused.NoMemory = Unit {0}
IsRefusal expected refusal = expected ≡ Err refusal

-- the judgement's answer, or memory ran out
abbrev pub IsVerdict : {A : Type 0} → Result A BalanceError → Result A BalanceError → Type 0
IsVerdict expected (Ok counts) = expected ≡ Ok counts
IsVerdict expected (Err refusal) = IsRefusal expected refusal
