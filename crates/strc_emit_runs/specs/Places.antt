-- Where a firing has its items, as a number, and how many items firings move.
use Rattle.std.specs.Prelude.{◌≡◌, ℕ, zero, suc, ◌+◌, ◌-◌, ◌*◌, ◌<◌, ◌≤◌, ◌^◌, pos, Ok}
use Rattle.strc_emit_moves.specs.declared.places.Items.{Items}
use Rattle.strc_emit_moves.specs.declared.places.Phase.{Phase}
use Rattle.strc_emit_moves.specs.declared.places.Phase.TheVariants as phase
use Rattle.strc_emit_moves.specs.Rooms.{moved}
use Rattle.strc_emit_passes.specs.Meaning.{place_value}

-- how many firings of a phase are before firing i: the first one of start-up is apart
abbrev pub before_it : Phase → (i : ℕ) → ℕ
before_it phase.Startup i = i - 1
before_it phase.Round i = i

abbrev pub IsLater : Phase → (i : ℕ) → Type 0
IsLater phase.Startup i = 1 ≤ i
IsLater phase.Round i = Unit {0}

-- `2 + 3 * i`, `2 + 3 * (i - 1)`: a place that an int holds is the number of items before it
abbrev pub PlacesAreCounted : Type 0
PlacesAreCounted =
    (items : Items) (i : ℕ) → IsLater items.phase i → i < 2 ^ 31
    → items.after + items.each * before_it items.phase i < 2 ^ 31
    → place_value items (pos i) ≡ Ok (pos (items.after + items.each * before_it items.phase i))

-- so is `2 + 2 * (0 - 1)`, of the first firing of start-up
abbrev pub FirstPlacesAreCounted : Type 0
FirstPlacesAreCounted =
    (items : Items) → items.phase ≡ phase.Startup → items.each ≤ items.after
    → items.after < 2 ^ 31
    → place_value items (pos 0) ≡ Ok (pos (items.after - items.each))

-- how many items so many firings of a phase move: in start-up the first one so many, and each later
-- one so many
abbrev pub moved_in : Phase → (first later firings : ℕ) → ℕ
moved_in phase.Startup first later firings = moved first later firings
moved_in phase.Round first later firings = later * firings

-- and how many the next one does
abbrev pub moved_next : Phase → (first later firing : ℕ) → ℕ
moved_next phase.Startup first later zero = first
moved_next phase.Startup first later (suc firing) = later
moved_next phase.Round first later firing = later
