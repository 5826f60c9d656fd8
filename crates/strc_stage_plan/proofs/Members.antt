-- The items of lists that are made of others.
use Rattle.std.proofs.Common.{◌≡◌, refl, sym, ap, ◌∙◌, subst, ℕ, zero, suc, ◌<◌, arith}
use Rattle.std.proofs.Common.{List, [], ◌∷◌, ◌++◌, map, Bool, true, false, cond, filter}
use Rattle.std.proofs.Common.{◌⊎◌, inl, inr}
use Rattle.std.proofs.lemmas.Bool.{cases_lt, true≢false}
use Rattle.strc_fiss.specs.Numbers.{up_to, joined_up_to}
use Rattle.strc_fiss.proofs.Each.{Each}

abbrev pub In : {A : Type 0} → A → List A → Type 0
In x [] = ⊥
In x (y ∷ ys) = (x ≡ y) ⊎ In x ys

pub each_in : {A : Type 0} (P : A → Type 0) (x : A) (xs : List A) → Each P xs → In x xs → P x
each_in P x [] each there = absurd there
each_in P x (y ∷ ys) each (inl here) = subst P (sym here) each.0
each_in P x (y ∷ ys) each (inr later) = each_in P x ys each.1 later

pub each_from : {A : Type 0} (P : A → Type 0) (xs : List A) → ((x : A) → In x xs → P x)
    → Each P xs
each_from P [] holds = tt
each_from P (x ∷ xs) holds =
    (holds x (inl refl), each_from P xs (λ y there. holds y (inr there)))

pub in_left : {A : Type 0} (x : A) (xs ys : List A) → In x xs → In x (xs ++ ys)
in_left x [] ys there = absurd there
in_left x (y ∷ xs) ys (inl here) = inl here
in_left x (y ∷ xs) ys (inr later) = inr (in_left x xs ys later)

pub in_right : {A : Type 0} (x : A) (xs ys : List A) → In x ys → In x (xs ++ ys)
in_right x [] ys there = there
in_right x (y ∷ xs) ys there = inr (in_right x xs ys there)

pub in_map : {A B : Type 0} (f : A → B) (x : A) (xs : List A) → In x xs → In (f x) (map f xs)
in_map f x [] there = absurd there
in_map f x (y ∷ ys) (inl here) = inl (ap f here)
in_map f x (y ∷ ys) (inr later) = inr (in_map f x ys later)

pub in_filter : {A : Type 0} (test : A → Bool) (x : A) (xs : List A) → test x ≡ true → In x xs
    → In x (filter test xs)
in_filter test x [] holds there = absurd there
in_filter test x (y ∷ ys) holds there =
    by_test (test y) refl (λ later. in_filter test x ys holds later) there
  where
    by_test : (t : Bool) → test y ≡ t → (In x ys → In x (filter test ys)) → In x (y ∷ ys)
        → In x (cond t (y ∷ filter test ys) (filter test ys))
    by_test true e next (inl here) = inl here
    by_test true e next (inr later) = inr (next later)
    by_test false e next (inl here) =
        absurd (true≢false (sym holds ∙ ap test here ∙ e))
    by_test false e next (inr later) = next later

pub in_up_to : {A : Type 0} (value : ℕ → A) (n k : ℕ) → k < n → In (value k) (up_to value n)
in_up_to value zero k less = absurd (omega (arith, less))
in_up_to value (suc n) k less = elim (cases_lt k n) [
  | inl lower ↦ in_left (value k) (up_to value n) (value n ∷ []) (in_up_to value n k lower)
  | inr last ↦
      let e : k ≡ n = omega (arith, less, last) in
      in_right (value k) (up_to value n) (value n ∷ []) (inl (ap value e))
]

pub in_joined : {A : Type 0} (lists : ℕ → List A) (x : A) (n k : ℕ) → k < n → In x (lists k)
    → In x (joined_up_to lists n)
in_joined lists x zero k less there = absurd (omega (arith, less))
in_joined lists x (suc n) k less there = elim (cases_lt k n) [
  | inl lower ↦ in_left x (joined_up_to lists n) (lists n) (in_joined lists x n k lower there)
  | inr last ↦
      let e : k ≡ n = omega (arith, less, last) in
      in_right x (joined_up_to lists n) (lists n)
      (subst (λ (i : ℕ). In x (lists i)) e there)
]
