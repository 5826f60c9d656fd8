-- Lists, item by item.
use Rattle.std.proofs.Common.{◌≡◌, ℕ, suc, ◌+◌, ◌<◌, List, ◌∷◌, length, drop, map, get_or, sym, ap}
use Rattle.std.proofs.Common.{◌∙◌, add-one, drop-cons}

-- the item at a place, before those after it
pub map-drop : {X A : Type 0} (view : X → A) (xs : List X) (i : ℕ) (x : X) → i < length xs
    → x ≡ get_or xs i x → map view (drop i xs) ≡ view x ∷ map view (drop (i + 1) xs)
map-drop view xs i x h is = rw add-one (ap (map view) (drop-cons xs i x h)
    ∙ ap (λ m. view m ∷ map view (drop (suc i) xs)) (sym is))
