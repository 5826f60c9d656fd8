-- Lists taken and made by one actor, and small facts on options and lists.
use Rattle.std.proofs.Common.{◌≡◌, refl, sym, ap, subst, suc, Bool, true, false, List, [], ◌∷◌}
use Rattle.std.proofs.Common.{◌++◌, length, Option, Some, None, unwrap_or, append-nil, true≢false}
use Rattle.strc_stage_core.specs.States.{Runs}
use Rattle.strc_stage_core.specs.Events.{is_free}

pub some_is : {A : Type 0} (x y : A) → Some x ≡ Some y → x ≡ y
some_is x y e = ap (λ o. unwrap_or o x) e

pub holding_not_free : {A : Type 0} (x : A) → Some (Some x) ≡ Some None → ⊥
holding_not_free x e = true≢false (sym (ap is_free e))

pub none_not_some : {A : Type 0} (x : A) → ◌≡◌ {A = Option A} None (Some x) → ⊥
none_not_some x e = true≢false (sym (ap is_some_of e))
  where
    is_some_of : {A : Type 0} → Option A → Bool
    is_some_of None = false
    is_some_of (Some x) = true

module _ {Actor Parcel : Type 0} (Does : Actor → Parcel → Actor → Parcel → Type 0) where
  pub runs_snoc : (a : Actor) (taken made : List Parcel) (b c : Actor) (parcel result : Parcel)
      → Runs Does a taken made b → Does b parcel c result
      → Runs Does a (taken ++ (parcel ∷ [])) (made ++ (result ∷ [])) c
  runs_snoc a [] [] b c parcel result runs does = (c, rw runs does, refl)
  runs_snoc a (p ∷ taken) (q ∷ made) b c parcel result (m, first, runs) does =
      (m, first, runs_snoc m taken made b c parcel result runs does)
  runs_snoc a _ _ b c parcel result runs does = absurd runs

  pub runs_length : (a : Actor) (taken made : List Parcel) (b : Actor) → Runs Does a taken made b
      → length taken ≡ length made
  runs_length a [] [] b runs = refl
  runs_length a (p ∷ taken) (q ∷ made) b (m, first, runs) =
      ap suc (runs_length m taken made b runs)
  runs_length a _ _ b runs = absurd runs

  -- An actor that holds nothing takes a parcel, and then holds what it makes of it.
  pub runs_take : (a : Actor) (taken given : List Parcel) (b c : Actor) (parcel result : Parcel)
      → Runs Does a taken (given ++ []) b → Does b parcel c result
      → Runs Does a (taken ++ (parcel ∷ [])) (given ++ (result ∷ [])) c
  runs_take a taken given b c parcel result runs does =
      runs_snoc a taken given b c parcel result
      (subst (λ (l : List Parcel). Runs Does a taken l b) (append-nil given) runs) does

  -- An actor gives what it holds.
  pub runs_give : (a : Actor) (taken given : List Parcel) (b : Actor) (result : Parcel)
      → Runs Does a taken (given ++ (result ∷ [])) b
      → Runs Does a taken ((given ++ (result ∷ [])) ++ []) b
  runs_give a taken given b result runs =
      subst (λ (l : List Parcel). Runs Does a taken l b)
      (sym (append-nil (given ++ (result ∷ [])))) runs
