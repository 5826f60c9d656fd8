-- What holds of the results of steps, one after another.
use Rattle.std.proofs.Common.{◌≡◌, subst, Result, Ok, Err, IfOk}
use Rattle.std.specs.Result.{IsErr, IsErrAnd}
use mathlib.Core.Path.{Path}
use Rattle.strc_lex_names.specs.Results.{result_and_then}

-- what holds of the value of each step holds of both
pub then_ok : {A B E : Type 0} (result : Result A E) (go : A → Result B E) (P : A → Type 0)
    (Q : B → Type 0) → IfOk result P → ((a : A) → P a → IfOk (go a) Q)
    → IfOk (result_and_then result go) Q
then_ok (Ok a) go P Q h next = next a h
then_ok (Err error) go P Q h next = tt

-- two facts about one value
pub both_ok : {A E : Type 0} (result : Result A E) (P Q : A → Type 0) → IfOk result P
    → IfOk result Q → IfOk result (λ a. P a × Q a)
both_ok (Ok a) P Q h k = (h, k)
both_ok (Err error) P Q h k = tt

-- an error that is passed on stays as it is
pub passed_error : {A E : Type 0} (result : Result A E) (error other : E)
    → IsErr result × IsErrAnd result (λ e. e ≡ error)
    → Path (Result A E) result (Err other) → other ≡ error
passed_error {A} {E} result error other given is =
    (subst (λ (r : Result A E). IsErr r × IsErrAnd r (λ e. e ≡ error)) is given).1
