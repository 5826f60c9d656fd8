-- Tables from names to slots.
use Rattle.std.specs.Prelude.{◌≡◌, ℕ, List, Option, Vec, cond, bytes_eq}
use Rattle.std.specs.HashMap.{HashMap, get_by}

-- the slot that a table has for a name
abbrev pub slot_in : {Y S : Type 0} → HashMap (Vec ℕ Y) ℕ S → List ℕ → Option ℕ
slot_in table name = get_by (λ key. bytes_eq name key.items) table

-- whether a table has this slot for a name, and for every other name what it had
abbrev pub IsUpdated : (List ℕ → Option ℕ) → List ℕ → Option ℕ → (List ℕ → Option ℕ) → Type 0
IsUpdated old name slot new = (sought : List ℕ)
    → new sought ≡ cond (bytes_eq name sought) slot (old sought)
