-- Links and hands as vectors.
use Rattle.std.proofs.Common.{◌≡◌, refl, sym, ap, ◌∙◌, ℕ, zero, suc, ◌-◌, ◌<◌, true, List, [], ◌∷◌}
use Rattle.std.proofs.Common.{◌++◌, map, set, get_or, slice_get, Some, remove, true≢false, arith}
use Rattle.std.proofs.Common.{subst, take, ◌≤◌, ◌+◌, length}
use Rattle.strc_stage_core.specs.Events.{before, is_loaded}
use Rattle.strc_stage_core.specs.Moves.{Pulls, AreRoomy}

pub before_later : (stages actor : ℕ) → 0 < actor → actor - 1 ≡ before stages actor
unfolding before
before_later stages zero some = absurd (omega (arith, some))
before_later stages (suc actor) some = omega arith

pub before_first : (stages actor : ℕ) → actor ≡ 0 → stages ≡ before stages actor
unfolding before
before_first stages zero e = refl
before_first stages (suc actor) e = absurd (omega (arith, e))

module _ {Queue Parcel : Type 0} (items : Queue → List Parcel) (capacity : Queue → ℕ) where
  pub lays : (links : List Queue) (to : ℕ) (old new : Queue) (parcel : Parcel)
      → old ≡ get_or links to old → items new ≡ items old ++ (parcel ∷ [])
      → map items (set links to new)
      ≡ set (map items links) to (get_or (map items links) to [] ++ (parcel ∷ []))
  lays [] to old new parcel is e = refl
  lays (link ∷ links) zero old new parcel is e = ap (λ l. l ∷ map items links)
      (e ∙ ap (λ q. items q ++ (parcel ∷ [])) is)
  lays (link ∷ links) (suc to) old new parcel is e =
      ap (λ l. items link ∷ l) (lays links to old new parcel is e)

  pub room_stays : (links : List Queue) (at : ℕ) (old new : Queue) → old ≡ get_or links at old
      → capacity new ≡ capacity old → map capacity (set links at new) ≡ map capacity links
  room_stays [] at old new is e = refl
  room_stays (link ∷ links) zero old new is e =
      ap (λ n. n ∷ map capacity links) (e ∙ ap capacity is)
  room_stays (link ∷ links) (suc at) old new is e =
      ap (λ l. capacity link ∷ l) (room_stays links at old new is e)

  pulls_here : (link left : List Parcel) (parcel : Parcel) → is_loaded (Some link) ≡ true
      → parcel ≡ get_or link 0 parcel → left ≡ remove link 0
      → (rest : List Parcel) × (link ≡ parcel ∷ rest) × (left ≡ rest)
  pulls_here [] left parcel loaded is e = absurd (true≢false (sym loaded))
  pulls_here (p ∷ link) left parcel loaded is e = (link, ap (λ x. x ∷ link) (sym is), e)

  pub pulls : (links : List Queue) (from : ℕ) (old new : Queue) (parcel : Parcel)
      → is_loaded (slice_get (map items links) from) ≡ true → old ≡ get_or links from old
      → parcel ≡ get_or (items old) 0 parcel → items new ≡ remove (items old) 0
      → Pulls (map items links) from parcel (map items (set links from new))
  pulls [] from old new parcel loaded is first e = absurd (true≢false (sym loaded))
  pulls (link ∷ links) zero old new parcel loaded is first e =
      let (rest, link_is, left) = pulls_here (items link) (items new) parcel loaded
      (first ∙ ap (λ q. get_or (items q) 0 parcel) is) (e ∙ ap (λ q. remove (items q) 0) is) in
      (rest, ap Some link_is, ap (λ l. l ∷ map items links) left)
  pulls (link ∷ links) (suc from) old new parcel loaded is first e =
      let (rest, comes, now) = pulls links from old new parcel loaded is first e in
      (rest, comes, ap (λ l. items link ∷ l) now)

  -- Room made for one link more.
  pub roomy_more : (room : ℕ) (links : List Queue) (at : ℕ) (new : Queue) → at < length links
      → room ≤ capacity new → AreRoomy room (map capacity (take at links))
      → AreRoomy room (map capacity (take (at + 1) (set links at new)))
  roomy_more room links at new less enough roomy =
      subst (λ n. AreRoomy room (map capacity (take n (set links at new))))
      (let e : suc at ≡ at + 1 = omega arith in e) (more links at less roomy)
    where
      more : (links : List Queue) (at : ℕ) → at < length links
          → AreRoomy room (map capacity (take at links))
          → AreRoomy room (map capacity (take (suc at) (set links at new)))
      more [] at less roomy = absurd (omega (arith, less))
      more (link ∷ links) zero less roomy = (enough, tt)
      more (link ∷ links) (suc at) less (here, roomy) =
          (here, more links at (omega (arith, less)) roomy)

  pub items_stay : (links : List Queue) (at : ℕ) (old new : Queue) → old ≡ get_or links at old
      → items new ≡ items old → map items (set links at new) ≡ map items links
  items_stay [] at old new is e = refl
  items_stay (link ∷ links) zero old new is e =
      ap (λ l. l ∷ map items links) (e ∙ ap items is)
  items_stay (link ∷ links) (suc at) old new is e =
      ap (λ l. items link ∷ l) (items_stay links at old new is e)

-- Two readings of one place.
pub same_place : {A : Type 0} (xs : List A) (at : ℕ) (a b : A) → at < length xs
    → a ≡ get_or xs at a → b ≡ get_or xs at b → a ≡ b
same_place [] at a b less x y = absurd (omega (arith, less))
same_place (z ∷ xs) zero a b less x y = x ∙ sym y
same_place (z ∷ xs) (suc at) a b less x y = same_place xs at a b (omega (arith, less)) x y
