-- Changes one after another, each at a place of its own.
use Rattle.std.proofs.Common.{◌≡◌, refl, ap, ◌∙◌, ℕ, ◌<◌, List, [], ◌∷◌, arith}
use mathlib.Core.Logic.{inl, inr, ◌⊎◌}

-- An element of a list.
abbrev pub In : {E : Type 0} → E → List E → Type 0
In element [] = ⊥
In element (first ∷ others) = (first ≡ element) ⊎ In element others

abbrev pub folded : {E A : Type 0} → (E → A → A) → List E → A → A
folded change [] whole = whole
folded change (element ∷ others) whole = folded change others (change element whole)

module _ {E : Type 0} (place : E → ℕ) where
  -- No place comes twice.
  abbrev pub Rising : List E → Type 0
  Rising [] = Unit {0}
  Rising (first ∷ others) = ((other : E) → In other others → place first < place other)
      × Rising others

-- What all changes keep.
pub folded_keeps : {E A B : Type 0} (change : E → A → A) (part : A → B)
    → ((element : E) (whole : A) → part (change element whole) ≡ part whole)
    → (elements : List E) (whole : A) → part (folded change elements whole) ≡ part whole
folded_keeps change part keeps [] whole = refl
folded_keeps change part keeps (element ∷ others) whole =
    folded_keeps change part keeps others (change element whole) ∙ keeps element whole

module _ {E A V : Type 0} (change : E → A → A) (place : E → ℕ) (look : A → ℕ → V)
    (Fine : A → Type 0) (keeps : (element : E) (whole : A) → Fine whole
    → Fine (change element whole))
    (elsewhere : (element : E) (whole : A) (other : ℕ) → (other ≡ place element → ⊥)
    → look (change element whole) other ≡ look whole other) where
  -- At another place than those of the changes all is as it was.
  pub folded_elsewhere : (elements : List E) (whole : A) (other : ℕ)
      → ((element : E) → In element elements → other ≡ place element → ⊥)
      → look (folded change elements whole) other ≡ look whole other
  folded_elsewhere [] whole other apart = refl
  folded_elsewhere (element ∷ others) whole other apart =
      folded_elsewhere others (change element whole) other
      (λ later among. apart later (inr among))
      ∙ elsewhere element whole other (apart element (inl refl))

  pub folded_fine : (elements : List E) (whole : A) → Fine whole
      → Fine (folded change elements whole)
  folded_fine [] whole fine = fine
  folded_fine (element ∷ others) whole fine =
      folded_fine others (change element whole) (keeps element whole fine)

  module _ (new : E → V → V) (Has : E → Type 0)
      (there : (element : E) (whole : A) → Fine whole → Has element
      → look (change element whole) (place element) ≡ new element (look whole (place element)))
    where
      -- At the place of a change it is what that change makes.
      pub folded_there : (elements : List E) (whole : A) (element : E) → Fine whole
          → Rising place elements → In element elements → Has element
          → look (folded change elements whole) (place element)
          ≡ new element (look whole (place element))
      folded_there [] whole element fine rising among has = absurd among
      folded_there (first ∷ others) whole element fine rising (inl same) has =
          let place_is = ap place same in
          folded_elsewhere others (change first whole) (place element)
          (λ other among e. omega (arith, rising.0 other among, place_is, e))
          ∙ ap (λ (x : E). look (change x whole) (place element)) same
          ∙ there element whole fine has
      folded_there (first ∷ others) whole element fine rising (inr among) has =
          folded_there others (change first whole) element (keeps first whole fine) rising.1
          among has
          ∙ ap (new element) (elsewhere first whole (place element)
          (λ e. omega (arith, rising.0 element among, e)))
