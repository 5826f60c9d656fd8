-- Lists of which no two items have one source.
use Rattle.std.proofs.Common.{◌≡◌, refl, sym, ap, ◌∙◌, ℕ, zero, suc, ◌<◌, arith, List, []}
use Rattle.std.proofs.Common.{◌∷◌, ◌++◌, map, filter, Bool, true, false, cond, Some, slice_get}
use Rattle.std.proofs.Common.{inl, inr}
use Rattle.std.proofs.lemmas.Option.{none-some, same_Some}
use Rattle.strc_elab_graph.specs.declared.graph.Port.{Port as End}
use Rattle.strc_fiss.specs.Numbers.{up_to, joined_up_to}
use Rattle.strc_fiss.proofs.Each.{Each, each_append, each_more, each_filter, each_up_to}
use Rattle.strc_fiss.proofs.Each.{each_joined}
use Rattle.strc_stage_plan.proofs.Members.{In, each_in, each_from}

-- items by their numbers
pub there_in : {A : Type 0} (x : A) (xs : List A) (k : ℕ) → slice_get xs k ≡ Some x → In x xs
there_in x [] k e = absurd (none-some x e)
there_in x (y ∷ ys) zero e = inl (sym (same_Some y x e))
there_in x (y ∷ ys) (suc k) e = inr (there_in x ys k e)

pub in_there : {A : Type 0} (x : A) (xs : List A) → In x xs
    → (k : ℕ) × (slice_get xs k ≡ Some x)
in_there x [] there = absurd there
in_there x (y ∷ ys) (inl here) = (0, ap Some (sym here))
in_there x (y ∷ ys) (inr later) = let (k, e) = in_there x ys later in (suc k, e)

module _ {A : Type 0} (source : A → End) where
  abbrev pub Differs : A → A → Type 0
  Differs x y = source x ≡ source y → ⊥

  abbrev pub Apart : List A → Type 0
  Apart [] = Unit {0}
  Apart (x ∷ xs) = Each (Differs x) xs × Apart xs

  pub apart_numbers : (xs : List A) → Apart xs → (i j : ℕ) (x y : A) → slice_get xs i ≡ Some x
      → slice_get xs j ≡ Some y → source x ≡ source y → i ≡ j
  apart_numbers [] apart i j x y at_x at_y same = absurd (none-some x at_x)
  apart_numbers (z ∷ zs) apart zero zero x y at_x at_y same = refl
  apart_numbers (z ∷ zs) apart zero (suc j) x y at_x at_y same =
      absurd (each_in (Differs z) y zs apart.0 (there_in y zs j at_y)
      (ap source (same_Some z x at_x) ∙ same))
  apart_numbers (z ∷ zs) apart (suc i) zero x y at_x at_y same =
      absurd (each_in (Differs z) x zs apart.0 (there_in x zs i at_x)
      (ap source (same_Some z y at_y) ∙ sym same))
  apart_numbers (z ∷ zs) apart (suc i) (suc j) x y at_x at_y same =
      ap suc (apart_numbers zs apart.1 i j x y at_x at_y same)

  pub apart_from : (xs : List A) → ((i j : ℕ) (x y : A) → slice_get xs i ≡ Some x
      → slice_get xs j ≡ Some y → source x ≡ source y → i ≡ j) → Apart xs
  apart_from [] one = tt
  apart_from (x ∷ xs) one = (
    each_from (Differs x) xs (λ y there same.
        let (k, e) = in_there y xs there in
        omega (arith, one 0 (suc k) x y refl e same)),
    apart_from xs (λ i j y z at_y at_z same.
        let e = one (suc i) (suc j) y z at_y at_z same in
        omega (arith, e)),
  )

  pub apart_append : (xs ys : List A) → Apart xs → Apart ys
      → Each (λ x. Each (Differs x) ys) xs → Apart (xs ++ ys)
  apart_append [] ys first second both = second
  apart_append (x ∷ xs) ys first second both = (
    each_append (Differs x) xs ys first.0 both.0,
    apart_append xs ys first.1 second both.1,
  )

  pub apart_filter : (test : A → Bool) (xs : List A) → Apart xs → Apart (filter test xs)
  apart_filter test [] apart = tt
  apart_filter test (x ∷ xs) apart =
      by_test (test x) (each_filter (Differs x) test xs apart.0) (apart_filter test xs apart.1)
    where
      by_test : (t : Bool) → Each (Differs x) (filter test xs) → Apart (filter test xs)
          → Apart (cond t (x ∷ filter test xs) (filter test xs))
      by_test true each rest = (each, rest)
      by_test false each rest = rest

  pub apart_up_to : (value : ℕ → A) (n : ℕ)
      → ((i j : ℕ) → i < n → j < n → source (value i) ≡ source (value j) → i ≡ j)
      → Apart (up_to value n)
  apart_up_to value zero one = tt
  apart_up_to value (suc n) one =
      apart_append (up_to value n) (value n ∷ [])
      (apart_up_to value n (λ i j first second same.
      one i j (omega (arith, first)) (omega (arith, second)) same)) (tt, tt)
      (each_up_to (λ x. Each (Differs x) (value n ∷ [])) value n
      (λ i less. (
        λ same. omega (
          arith,
          less,
          one i n (omega (arith, less)) (omega arith) same,
        ),
        tt,
      )))

  -- lists whose items are told apart by the list
  pub apart_joined : (P : ℕ → A → Type 0) (lists : ℕ → List A) (n : ℕ)
      → ((i : ℕ) → i < n → Apart (lists i)) → ((i : ℕ) → i < n → Each (P i) (lists i))
      → ((i j : ℕ) (x y : A) → P i x → P j y → source x ≡ source y → i ≡ j)
      → Apart (joined_up_to lists n)
  apart_joined P lists zero each own one = tt
  apart_joined P lists (suc n) each own one =
      apart_append (joined_up_to lists n) (lists n)
      (apart_joined P lists n (λ i less. each i (omega (arith, less)))
      (λ i less. own i (omega (arith, less))) one)
      (each n (omega arith))
      (each_joined (λ x. Each (Differs x) (lists n)) lists n
      (λ i less. each_more (P i) (λ x. Each (Differs x) (lists n)) (lists i)
      (λ x here. each_more (P n) (Differs x) (lists n)
      (λ y there same. omega (arith, less, one i n x y here there same))
      (own n (omega arith))) (own i (omega (arith, less)))))

-- what has other sources, which tell as much apart
pub apart_more : {A : Type 0} (before after : A → End) (P : A → Type 0) (xs : List A) → Each P xs
    → ((x y : A) → P x → P y → after x ≡ after y → before x ≡ before y)
    → Apart before xs → Apart after xs
apart_more before after P [] each tells apart = tt
apart_more {A = A} before after P (x ∷ xs) each tells apart = (
  each_both x xs each.0 each.1 apart.0,
  apart_more before after P xs each.1 tells apart.1,
)
  where
    each_both : (y : A) (ys : List A) → P y → Each P ys → Each (λ z. before y ≡ before z → ⊥) ys
        → Each (λ z. after y ≡ after z → ⊥) ys
    each_both y [] here all differ = tt
    each_both y (z ∷ zs) here all differ = (
      λ same. differ.0 (tells y z here all.0 same),
      each_both y zs here all.1 differ.1,
    )

pub apart_map : {A B : Type 0} (f : A → B) (source : B → End) (xs : List A)
    → Apart (λ x. source (f x)) xs → Apart source (map f xs)
apart_map f source [] apart = tt
apart_map {A = A} f source (x ∷ xs) apart = (each_image xs apart.0, apart_map f source xs apart.1)
  where
    each_image : (ys : List A) → Each (λ y. source (f x) ≡ source (f y) → ⊥) ys
        → Each (λ z. source (f x) ≡ source z → ⊥) (map f ys)
    each_image [] each = tt
    each_image (y ∷ ys) each = (each.0, each_image ys each.1)
