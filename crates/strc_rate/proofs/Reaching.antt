-- A run in steps stays in range where each step does.
use Rattle.std.proofs.Common.{◌≡◌, refl, Bool, true, false, cond, Result, Ok, Err}
use Rattle.std.specs.Bool.{MatchBool}
use Rattle.std.specs.Result.{IfOk}
use Rattle.strc_lex_names.specs.Results.{result_and_then}
use Rattle.strc_work_meaning.specs.declared.fault.Cause.{Cause}
use Rattle.strc_work_meaning.specs.declared.fault.Cause.TheVariants.{DivZero, Index, PeekRange}
use Rattle.strc_work_meaning.specs.declared.fault.Cause.TheVariants.{Turns, Calls}
use Rattle.strc_rate.specs.Ranges.{IsInRange}
use Rattle.strc_rate.proofs.Results.{any_ok}

-- a step, and then another from a value of which something is known
pub in_then : {A B : Type 0} (result : Result A Cause) (go : A → Result B Cause) (P : A → Type 0)
    → IsInRange result → IfOk result P → ((a : A) → P a → IsInRange (go a))
    → IsInRange (result_and_then result go)
in_then (Ok a) go P here known next = next a known
in_then (Err PeekRange) go P here known next = here
in_then (Err DivZero) go P here known next = tt
in_then (Err Index) go P here known next = tt
in_then (Err Turns) go P here known next = tt
in_then (Err Calls) go P here known next = tt

-- from any value
pub in_plain : {A B : Type 0} (result : Result A Cause) (go : A → Result B Cause)
    → IsInRange result → ((a : A) → IsInRange (go a)) → IsInRange (result_and_then result go)
in_plain result go here next =
    in_then result go (λ a. Unit {0}) here (any_ok result) (λ a any. next a)

-- from a value that is known
pub in_done : {A B : Type 0} (result : Result A Cause) (a : A) (go : A → Result B Cause)
    → result ≡ Ok a → IsInRange (go a) → IsInRange (result_and_then result go)
in_done result a go is next = rw is next

pub in_known : {A : Type 0} (result : Result A Cause) (a : A) → result ≡ Ok a → IsInRange result
in_known result a is = rw is tt

-- one of two runs, by a test's outcome
pub in_side : {A : Type 0} (test : Bool) (one other : Result A Cause)
    → (test ≡ true → IsInRange one) → (test ≡ false → IsInRange other)
    → IsInRange (cond test one other)
in_side true one other h k = h refl
in_side false one other h k = k refl

pub match_true : (test : Bool) (P Q : Type 0) → test ≡ true → MatchBool test P Q → P
match_true true P Q is h = h
match_true false P Q is h = absurd (cc)

pub match_false : (test : Bool) (P Q : Type 0) → test ≡ false → MatchBool test P Q → Q
match_false true P Q is h = absurd (cc)
match_false false P Q is h = h

-- what holds of a result's value, where that is known
pub known_ok : {A : Type 0} (result : Result A Cause) (a : A) (P : A → Type 0) → result ≡ Ok a
    → IfOk result P → P a
known_ok result a P is h = rw is at h
