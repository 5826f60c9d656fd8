-- What single moves of parcels do to links and hands.
use Rattle.std.specs.Prelude.{◌≡◌, ℕ, ◌≤◌, List, [], ◌∷◌, set, Some, slice_get, map, Vec, vec_items}
use Rattle.std.specs.Prelude.{vec_capacity}

-- Vectors of parcels as lists, and how many parcels each has room for.
abbrev pub queues : {Parcel Alloc : Type 0} → List (Vec Parcel Alloc) → List (List Parcel)
queues links = map vec_items links

abbrev pub rooms : {Parcel Alloc : Type 0} → List (Vec Parcel Alloc) → List ℕ
rooms links = map vec_capacity links

-- The first parcel goes from a link.
abbrev pub Pulls : {Parcel : Type 0} → List (List Parcel) → ℕ → Parcel → List (List Parcel) → Type 0
Pulls {Parcel} old from parcel new =
    (rest : List Parcel) × (slice_get old from ≡ Some (parcel ∷ rest)) × (new ≡ set old from rest)

-- Links of these capacities have room for so many parcels each.
abbrev pub AreRoomy : ℕ → List ℕ → Type 0
AreRoomy room [] = Unit {0}
AreRoomy room (capacity ∷ capacities) = (room ≤ capacity) × AreRoomy room capacities
