-- What holds of each item of lists that are made of others.
use Rattle.std.proofs.Common.{ℕ, zero, suc, ◌<◌, arith}
use Rattle.std.proofs.Common.{List, [], ◌∷◌, ◌++◌, map, All, Bool, true, false, cond}
use Rattle.std.proofs.Common.{filter}
use Rattle.strc_fiss.specs.Numbers.{up_to, joined_up_to}

abbrev pub Each : {A : Type 0} (P : A → Type 0) → List A → Type 0
Each P [] = Unit {0}
Each P (x ∷ xs) = P x × Each P xs

pub each_all : {A : Type 0} (P : A → Type 0) (xs : List A) → Each P xs → All P xs
each_all P [] each k d less = absurd (omega (arith, less))
each_all P (x ∷ xs) each zero d less = each.0
each_all P (x ∷ xs) each (suc k) d less = each_all P xs each.1 k d (omega (arith, less))

pub all_each : {A : Type 0} (P : A → Type 0) (xs : List A) → All P xs → Each P xs
all_each P [] all = tt
all_each P (x ∷ xs) all =
    (all 0 x (omega arith), all_each P xs (λ k d less. all (suc k) d (omega (arith, less))))

pub each_append : {A : Type 0} (P : A → Type 0) (xs ys : List A) → Each P xs → Each P ys
    → Each P (xs ++ ys)
each_append P [] ys first second = second
each_append P (x ∷ xs) ys first second = (first.0, each_append P xs ys first.1 second)

pub each_more : {A : Type 0} (P Q : A → Type 0) (xs : List A) → ((x : A) → P x → Q x) → Each P xs
    → Each Q xs
each_more P Q [] step each = tt
each_more P Q (x ∷ xs) step each = (step x each.0, each_more P Q xs step each.1)

pub each_map : {A B : Type 0} (f : A → B) (P : B → Type 0) (xs : List A) → Each (λ x. P (f x)) xs
    → Each P (map f xs)
each_map f P [] each = tt
each_map f P (x ∷ xs) each = (each.0, each_map f P xs each.1)

pub map_each : {A B : Type 0} (f : A → B) (P : B → Type 0) (xs : List A) → Each P (map f xs)
    → Each (λ x. P (f x)) xs
map_each f P [] each = tt
map_each f P (x ∷ xs) each = (each.0, map_each f P xs each.1)

pub each_filter : {A : Type 0} (P : A → Type 0) (test : A → Bool) (xs : List A) → Each P xs
    → Each P (filter test xs)
each_filter P test [] each = tt
each_filter P test (x ∷ xs) each = by_test (test x) (each_filter P test xs each.1)
  where
    by_test : (t : Bool) → Each P (filter test xs)
        → Each P (cond t (x ∷ filter test xs) (filter test xs))
    by_test true later = (each.0, later)
    by_test false later = later

pub each_up_to : {A : Type 0} (P : A → Type 0) (value : ℕ → A) (n : ℕ)
    → ((k : ℕ) → k < n → P (value k)) → Each P (up_to value n)
each_up_to P value zero holds = tt
each_up_to P value (suc n) holds =
    each_append P (up_to value n) (value n ∷ [])
    (each_up_to P value n (λ k less. holds k (omega (arith, less)))) (holds n (omega arith), tt)

pub each_joined : {A : Type 0} (P : A → Type 0) (lists : ℕ → List A) (n : ℕ)
    → ((k : ℕ) → k < n → Each P (lists k)) → Each P (joined_up_to lists n)
each_joined P lists zero holds = tt
each_joined P lists (suc n) holds =
    each_append P (joined_up_to lists n) (lists n)
    (each_joined P lists n (λ k less. holds k (omega (arith, less)))) (holds n (omega arith))
