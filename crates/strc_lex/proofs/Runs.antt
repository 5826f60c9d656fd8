-- Runs at the front of a text, and the number that digits write.
use Rattle.std.proofs.Common.{◌≡◌, ℕ, suc, ◌+◌, ◌-◌, ◌*◌, ◌<◌, ◌≤◌, Bool, true, false, cond, List}
use Rattle.std.proofs.Common.{[], ◌∷◌, length, take, refl, ap, arith, None, ◌∙◌, subst, sym}
use Rattle.std.specs.List.{list_all, take_while, prefix_len}
use Rattle.std.proofs.lemmas.Bool.Decides.{nat_tests}
use Rattle.std.proofs.lemmas.List.Folds.{length-prefix_len}
use Rattle.strc_lex.specs.Text.{number_from}
use Rattle.strc_lex.specs.Scanning.{bounded}

-- the front of the length of the run is the run
pub take-run : (p : ℕ → Bool) (xs : List ℕ) (n : ℕ) → n ≡ length (take_while p xs)
    → take n xs ≡ take_while p xs
take-run p xs n e = ap (λ k. take k xs) (e ∙ length-prefix_len p xs)

-- each element of the run passes
pub list_all-take_while : (p : ℕ → Bool) (xs : List ℕ) → list_all p (take_while p xs) ≡ true
list_all-take_while p [] = refl
list_all-take_while p (x ∷ xs) =
    let step : (b : Bool) → p x ≡ b → list_all p (take (cond b (1 + prefix_len p xs) 0) (x ∷ xs))
    ≡ true =
    λ b. elim b as (λ v. p x ≡ v → list_all p (take (cond v (1 + prefix_len p xs) 0) (x ∷ xs))
    ≡ true) [
      | true ↦ λ passes.
          let one : suc (prefix_len p xs) ≡ 1 + prefix_len p xs = omega arith in
          subst (λ n. list_all p (take n (x ∷ xs)) ≡ true) one
          (rw passes (list_all-take_while p xs))
      | false ↦ λ stops. refl
    ] in
    step (p x) refl

-- more digits make no number less
pub number_grows : (high : ℕ) (bytes : List ℕ) → high ≤ number_from high bytes
number_grows high [] = omega arith
number_grows high (b ∷ bytes) = let rest = number_grows (10 * high + (b - 48)) bytes in omega arith

pub bounded-above : (n : ℕ) → 2147483648 < n → bounded n ≡ None
bounded-above n h = grind (arith, nat_tests)

-- a run goes on where its first element passes
pub run_head : (p : ℕ → Bool) (x : ℕ) (xs : List ℕ) → p x ≡ true
    → take_while p (x ∷ xs) ≡ x ∷ take_while p xs
run_head p x xs passes =
    let one : 1 + prefix_len p xs ≡ suc (prefix_len p xs) = omega arith in
    rw passes (ap (λ n. take n (x ∷ xs)) one)

pub run_positive : (p : ℕ → Bool) (x : ℕ) (xs : List ℕ) → p x ≡ true
    → 0 < length (take_while p (x ∷ xs))
run_positive p x xs passes = subst (λ ys. 0 < length ys) (sym (run_head p x xs passes))
    (omega arith)
