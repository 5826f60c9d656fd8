-- The rule of a link: what was sent is what was received and then what is on the link, which is
-- never more than it has room for. One end sends and one receives.
use Rattle.std.specs.Prelude.{◌≡◌, ◌≤◌, ◌++◌, ◌∷◌, ℕ, Bool, true, List, [], length}
use mathlib.Core.Option.{some}
use lib.ListN.{get_elem?}
use Rattle.strc_stage_core.specs.Parcels.{ParcelView}
use Rattle.strc_run_links.specs.declared.view.Log.{Log}

abbrev pub log : (sends takes : Bool) → (room : ℕ) → (sent got : List ParcelView) → Log
log sends takes room sent got =
    record { sends = sends; takes = takes; room = room; sent = sent; got = got }

-- A view that sends is the giver's, which knows what was sent and the room; one that takes is the
-- taker's, which knows what was received.
abbrev pub Fits : (giver taker held : ℕ) → (sent got : List ParcelView) → ℕ → Log → Type 0
Fits giver taker held sent got seat v =
    (v.sends ≡ true → (seat ≡ giver) × (v.sent ≡ sent) × (held ≤ v.room))
    × (v.takes ≡ true → (seat ≡ taker) × (v.got ≡ got))

-- Of all views.
abbrev pub InOrder : List ParcelView → List Log → Type 0
InOrder items views = (giver : ℕ) × (taker : ℕ) × (sent : List ParcelView)
    × (got : List ParcelView) × (sent ≡ got ++ items)
    × ((seat : ℕ) (v : Log) → get_elem? views seat ≡ some v
    → Fits giver taker (length items) sent got seat v)

-- What one who has both roles learns of what is on the link.
abbrev pub Left : Log → List ParcelView → Type 0
Left v items = (v.sent ≡ v.got ++ items) × (length items ≤ v.room)

-- A view after one parcel more was sent, or received.
abbrev pub Sends : Log → ParcelView → Log → Type 0
Sends v x w = w ≡ log v.sends v.takes v.room (v.sent ++ x ∷ []) v.got

abbrev pub Gets : Log → ParcelView → Log → Type 0
Gets v x w = w ≡ log v.sends v.takes v.room v.sent (v.got ++ x ∷ [])
