-- Facts about results, tests and the ends of lists.
use Rattle.std.proofs.Common.{◌≡◌, refl, ◌∙◌, ap, ℕ, suc, ◌+◌, ◌-◌, ◌≤◌, Bool, true, false, ◌&&◌}
use Rattle.std.proofs.Common.{◌||◌, List, ◌∷◌, length, take, drop, map, Result, Ok, Err, arith}
use Rattle.std.specs.Bool.{MatchBool}
use Rattle.std.specs.Result.{IfOk}
use Rattle.std.proofs.lemmas.List.{length-map, length-drop, drop-drop, drop-map}
use Rattle.strc_lex_names.specs.Results.{result_and_then}
use Rattle.strc_work_meaning.specs.declared.fault.Cause.{Cause}

pub or_first : (a b : Bool) → (a || b) ≡ false → a ≡ false
or_first true b e = e
or_first false b e = refl

pub or_second : (a b : Bool) → (a || b) ≡ false → b ≡ false
or_second true b e = absurd (cc)
or_second false b e = e

pub and_first : (a b : Bool) → (a && b) ≡ true → a ≡ true
and_first true b e = refl
and_first false b e = e

pub and_second : (a b : Bool) → (a && b) ≡ true → b ≡ true
and_second true b e = e
and_second false b e = absurd (cc)

-- what holds of the value of each step holds of both
pub then_ok : {A B : Type 0} (result : Result A Cause) (go : A → Result B Cause) (P : A → Type 0)
    (Q : B → Type 0) → IfOk result P → ((a : A) → P a → IfOk (go a) Q)
    → IfOk (result_and_then result go) Q
then_ok (Ok a) go P Q h next = next a h
then_ok (Err cause) go P Q h next = tt

-- two facts about one value
pub both_ok : {A : Type 0} (result : Result A Cause) (P Q : A → Type 0) → IfOk result P
    → IfOk result Q → IfOk result (λ a. P a × Q a)
both_ok (Ok a) P Q h k = (h, k)
both_ok (Err cause) P Q h k = tt

-- any value
pub any_ok : {A : Type 0} (result : Result A Cause) → IfOk result (λ a. Unit {0})
any_ok (Ok a) = tt
any_ok (Err cause) = tt

pub ok_known : {A : Type 0} (result : Result A Cause) (a : A) (P : A → Type 0) → result ≡ Ok a → P a
    → IfOk result P
ok_known result a P e h = rw e h

-- a step whose value is known
pub done_ok : {A B : Type 0} (result : Result A Cause) (a : A) (go : A → Result B Cause)
    (Q : B → Type 0) → result ≡ Ok a → IfOk (go a) Q → IfOk (result_and_then result go) Q
done_ok (Ok b) a go Q e h = let same : b ≡ a = cc in rw same h
done_ok (Err cause) a go Q e h = tt

-- by a test's outcome
pub match_by : (test : Bool) (P Q : Type 0) → (test ≡ true → P) → (test ≡ false → Q)
    → MatchBool test P Q
match_by true P Q h k = h refl
match_by false P Q h k = k refl

-- ---- the last items of a list, and those before them

abbrev pub below : {A : Type 0} → ℕ → List A → List A
below n xs = drop (length xs - n) xs

abbrev pub above : {A : Type 0} → ℕ → List A → List A
above n xs = take (length xs - n) xs

pub below_below : {A : Type 0} (n m : ℕ) (xs : List A) → n ≤ m → m ≤ length xs
    → below n (below m xs) ≡ below n xs
below_below n m xs le within =
    let size : length (drop (length xs - m) xs) - n ≡ m - n =
    omega (arith, length-drop (length xs - m) xs) in
    let sum : (length xs - m) + (m - n) ≡ length xs - n = omega arith in
    ap (λ k. drop k (drop (length xs - m) xs)) size ∙ drop-drop (m - n) (length xs - m) xs
    ∙ ap (λ k. drop k xs) sum

pub below_map : {A B : Type 0} (f : A → B) (n : ℕ) (xs : List A)
    → below n (map f xs) ≡ map f (below n xs)
below_map f n xs = ap (λ k. drop (k - n) (map f xs)) (length-map xs f)
    ∙ drop-map f (length xs - n) xs

pub below_all : {A : Type 0} (xs : List A) → below (length xs) xs ≡ xs
below_all xs = let none : length xs - length xs ≡ 0 = omega arith in ap (λ k. drop k xs) none

pub below_more : {A : Type 0} (n : ℕ) (x : A) (xs : List A) → n ≤ length xs
    → below n (x ∷ xs) ≡ below n xs
below_more n x xs le =
    let e : suc (length xs) - n ≡ suc (length xs - n) = omega arith in ap (λ k. drop k (x ∷ xs)) e

pub above_more : {A : Type 0} (n : ℕ) (x : A) (xs : List A) → n ≤ length xs
    → above n (x ∷ xs) ≡ x ∷ above n xs
above_more n x xs le =
    let e : suc (length xs) - n ≡ suc (length xs - n) = omega arith in ap (λ k. take k (x ∷ xs)) e
